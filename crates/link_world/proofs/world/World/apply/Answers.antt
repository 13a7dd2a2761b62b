use Rattle.link_world.proofs.Common.{◌≡◌, ℕ, ◌+◌, ◌⊎◌, refl, sym, ◌∙◌, ap, subst, inl, inr, Option, Some, None, Result}
use Rattle.link_world.proofs.Common.{Ok, Err, IfOk, IfErr, WorldFault, NothingThere, StandForBoth, World, seen_from}
use Rattle.link_world.proofs.Common.{end_of, IsAnswered}
use Rattle.std.specs.Prelude.{OnOk, OnErr, min}
use Rattle.link_machine.specs.declared.machine.Machine.{Machine as HeldLink}
use Rattle.link_machine.specs.StandsFor.{StandsFor as LinkStandsFor}
use Rattle.link_world.specs.declared.fault.WorldFault.TheVariants.{Link, NotQuiet, Memory}
use Rattle.link_world.specs.Faults.{cause, cause_in}
use Rattle.link_world.specs.Held.{IsKept, stop_of}
use Rattle.link_world.specs.StandsFor.{HeldWorld, StandsFor, IsAlike}
use Rattle.link_world.proofs.Causes.{refused_cause, missing_cause}
use Rattle.link_world.proofs.world.World.apply.Goals as goal

-- what holds of one outcome of a call gives what else holds of it
ok_too : {T E : Type 0} (r : Result T E) (P : T → Type 0) (Q : Type 0) → ((x : T) → P x → Q) → IfOk r P → OnOk r Q
ok_too (Ok x) P Q f h = f x h
ok_too (Err e) P Q f h = tt

each_ok : {T E : Type 0} (r : Result T E) (P Q : T → Type 0) → ((x : T) → P x → Q x) → IfOk r P → IfOk r Q
each_ok (Ok x) P Q f h = f x h
each_ok (Err e) P Q f h = tt

err_too : {T E : Type 0} (r : Result T E) (P Q : Type 0) → (P → Q) → OnErr r P → OnErr r Q
err_too (Ok x) P Q f h = tt
err_too (Err e) P Q f h = f h

each_err : {T E : Type 0} (r : Result T E) (P Q : E → Type 0) → ((e : E) → P e → Q e) → IfErr r P → IfErr r Q
each_err (Ok x) P Q f h = tt
each_err (Err e) P Q f h = f e h

-- two sides that stand for those of a world stand for the world, and the other way round
both_of : (held : HeldWorld) (w : World) → StandsFor held w → StandForBoth held.a held.b w
both_of held w h = record {
  of_near = record { link = h.links.a; towards = h.towards_a };
  of_far = record { link = h.links.b; towards = h.towards_b };
}

world_of : (held : HeldWorld) (w : World) → StandForBoth held.a held.b w → StandsFor held w
world_of held w h = record {
  links = record { a = h.of_near.link; b = h.of_far.link };
  towards_a = h.of_near.towards;
  towards_b = h.of_far.towards;
}

-- what is refused changes neither side
alike : (held following : HeldWorld) → IsKept held.a held.b following.a following.b → IsAlike held following
alike held following k = record {
  link_of_a = k.near_link;
  link_of_b = k.far_link;
  towards_a = k.near_towards;
  towards_b = k.far_towards;
}

unchanged : (held following : HeldWorld) (w : World) → StandsFor held w → IsKept held.a held.b following.a following.b
    → StandsFor following w
unchanged held following w h k = record {
  links = record {
    a = subst (λ (l : HeldLink). LinkStandsFor l w.a.end.machine) (sym k.near_link) h.links.a;
    b = subst (λ (l : HeldLink). LinkStandsFor l w.b.end.machine) (sym k.far_link) h.links.b;
  };
  towards_a = k.near_towards ∙ h.towards_a;
  towards_b = k.far_towards ∙ h.towards_b;
}

-- a cause is the answer
cause_answered :
    {T : Type 0} (r : Result T WorldFault) (found : Option WorldFault) (fault : WorldFault)
    → IsAnswered found r → found ≡ Some fault → r ≡ Err fault
cause_answered r found fault h e = subst (λ c. IsAnswered c r) e h

-- and the answer is a cause, or that memory was not given
fault_is :
    {T : Type 0} (r : Result T WorldFault) (found : Option WorldFault)
    → IsAnswered found r → IfErr r (λ fault. (fault ≡ Memory) ⊎ (found ≡ Some fault))
fault_is r None h = each_err r _ _ (λ fault memory. inl memory) h
fault_is r (Some cause) h = subst (λ x. IfErr x (λ fault. (fault ≡ Memory) ⊎ (Some cause ≡ Some fault))) (sym h)
    (inr refl)

-- a world stops at an event exactly when that answers so
stopped_at : {T : Type 0} (r : Result T WorldFault) (index : ℕ) → stop_of r ≡ Some index → r ≡ Err (NotQuiet index)
stopped_at (Ok told) index e = absurd (let n : None ≡ Some index = e in cc)
stopped_at (Err NothingThere) index e = absurd (let n : None ≡ Some index = e in cc)
stopped_at (Err (Link fault)) index e = absurd (let n : None ≡ Some index = e in cc)
stopped_at (Err (NotQuiet other)) index e = let same : Some other ≡ Some index = e in ap (λ n. Err (NotQuiet n)) cc
stopped_at (Err Memory) index e = absurd (let n : None ≡ Some index = e in cc)

pub returns-clause-stands_for : goal.returns-clause-stands_for
returns-clause-stands_for c = λ w h.
    let held = subst (λ (v : HeldWorld). StandsFor v w) (sym c.self.view_is) h in
    ok_too c.happen-outcome.result _ _ (λ told made. world_of _ _ made.stands)
    (c.happen-outcome.ensures.step w (both_of _ w held))

pub returns-clause-told : goal.returns-clause-told
returns-clause-told c = λ w h.
    let held = subst (λ (v : HeldWorld). StandsFor v w) (sym c.self.view_is) h in
    each_ok c.happen-outcome.result _ _ (λ told made. made.tells) (c.happen-outcome.ensures.step w (both_of _ w held))

pub returns-clause-unchanged : goal.returns-clause-unchanged
returns-clause-unchanged c = λ w h.
    let held = subst (λ (v : HeldWorld). StandsFor v w) (sym c.self.view_is) h in
    err_too c.happen-outcome.result _ _ (λ kept. unchanged _ _ w held kept) c.happen-outcome.ensures.kept

pub returns-clause-refused : goal.returns-clause-refused
returns-clause-refused c = λ w fault h e.
    let held = subst (λ (v : HeldWorld). StandsFor v w) (sym c.self.view_is) h in
    let number = c.saturating_add-self-inside.result in
    let none : c.args.self.now.stopped ≡ None = sym (ap (λ (v : HeldWorld). v.stopped) c.self.view_is)
    ∙ c.in_default.is in
    cause_answered c.happen-outcome.result (cause number w c.args.event) fault
    (c.happen-outcome.ensures.answered w (both_of _ w held))
    (sym (ap (λ s. cause_in s number w c.args.event) none) ∙ e)

pub returns-clause-fault : goal.returns-clause-fault
returns-clause-fault c = λ w h.
    let held = subst (λ (v : HeldWorld). StandsFor v w) (sym c.self.view_is) h in
    let number = c.saturating_add-self-inside.result in
    let none : c.args.self.now.stopped ≡ None = sym (ap (λ (v : HeldWorld). v.stopped) c.self.view_is)
    ∙ c.in_default.is in
    each_err c.happen-outcome.result _ _ (λ fault is. elim is [
      | inl memory ↦ inl memory
      | inr cause_is ↦ inr (ap (λ s. cause_in s number w c.args.event) none ∙ cause_is)
    ])
    (fault_is c.happen-outcome.result (cause number w c.args.event)
    (c.happen-outcome.ensures.answered w (both_of _ w held)))

pub returns-clause-nothing_there : goal.returns-clause-nothing_there
returns-clause-nothing_there c = λ w h none e.
    let held = subst (λ (v : HeldWorld). StandsFor v w) (sym c.self.view_is) h in
    let number = c.saturating_add-self-inside.result in
    cause_answered c.happen-outcome.result (cause number w c.args.event) NothingThere
    (c.happen-outcome.ensures.answered w (both_of _ w held))
    (missing_cause c.args.event number (seen_from (end_of c.args.event) w) e)

pub returns-clause-link_refuses : goal.returns-clause-link_refuses
returns-clause-link_refuses c = λ w fault h none e.
    let held = subst (λ (v : HeldWorld). StandsFor v w) (sym c.self.view_is) h in
    let number = c.saturating_add-self-inside.result in
    cause_answered c.happen-outcome.result (cause number w c.args.event) (Link fault)
    (c.happen-outcome.ensures.answered w (both_of _ w held))
    (refused_cause c.args.event number (seen_from (end_of c.args.event) w) fault e)

pub returns-clause-kept : goal.returns-clause-kept
returns-clause-kept c =
    let P : HeldWorld → Type 0 = λ v. OnErr c.happen-outcome.result (IsAlike v (record {
      a = c.happen-outcome.new.a;
      b = c.happen-outcome.new.b;
      calls = c.saturating_add-self-inside.result;
      stopped = c.stop_of-self-inside.result;
    })) in
    subst P c.self.view_is
    (err_too c.happen-outcome.result _ _ (λ kept. alike _ _ kept) c.happen-outcome.ensures.kept)

pub returns-clause-stopped : goal.returns-clause-stopped
returns-clause-stopped c = λ index e.
    let none : c.args.self.now.stopped ≡ None = sym (ap (λ (v : HeldWorld). v.stopped) c.self.view_is)
    ∙ c.in_default.is in
    absurd (let n : None ≡ Some index = sym none ∙ e in cc)

pub returns-clause-calls : goal.returns-clause-calls
returns-clause-calls c =
    c.saturating_add-self-inside.ensures
    ∙ ap (λ (v : HeldWorld). min (v.calls + 1) 18446744073709551615) c.self.view_is

pub returns-clause-stops : goal.returns-clause-stops
returns-clause-stops c = λ index. (
  λ e. stopped_at c.happen-outcome.result index (sym c.stop_of-self-inside.ensures ∙ e),
  λ e. c.stop_of-self-inside.ensures ∙ ap stop_of e,
)
