use Rattle.link_world.proofs.Common.{◌≡◌, ◌∙◌, ap, sym, subst, refl, false, true, IfErr, err_from_is_err_and, event_of}
use Rattle.link_world.proofs.Common.{seen_of, inl, inr, None, Some, Err, rules, tests}
use Rattle.std.specs.Prelude.{IsErrAnd}
use Rattle.link_machine.specs.StandsFor.{StandsFor as LinkStandsFor}
use Rattle.link_machine.specs.declared.fault.LinkFault.TheVariants.{Memory as LinkMemory}
use Rattle.link_machine.specs.declared.machine.Machine.{Machine as HeldLink}
use Rattle.link_world.specs.declared.side.Side.{Side as HeldSide}
use Rattle.link_world.specs.declared.fault.WorldFault.TheVariants.{Memory}
use Rattle.link_world.proofs.Causes.{refused_asked, asked_cause, answered_by, memory_answered}
use Rattle.link_world.proofs.Counting.{Steps, near_formed, far_formed}
use Rattle.link_world.proofs.Sides.{asked_made}
use Rattle.link_world.proofs.happening.take.Goals as goal

pub returns-in-Some-clause-answered : goal.returns-in-Some-clause-answered
returns-in-Some-clause-answered c = λ w end both.
    let refused = sym (c.refusal.ensures w.a.end.machine both.of_near.link) ∙ c.in-Some.is in
    answered_by _ _ _ (refused_asked c.args.request end c.args.number w c.in-Some.fault refused) (ap Err c.from.ensures)

pub returns-then-is_noisy-clause-answered : goal.returns-then-is_noisy-clause-answered
returns-then-is_noisy-clause-answered c = λ w end both.
    let m = w.a.end.machine in
    let free = sym (c.refusal.ensures m both.of_near.link) ∙ c.in_default.is in
    answered_by _ _ _ (asked_cause c.args.request end c.args.number w c.args.near.now c.args.far.now c.asks.result true
    c.asking.result c.answering.result both free (c.asks.ensures m both.of_near.link) c.asking.ensures
    c.answering.ensures (sym c.if-is_noisy.true ∙ c.is_noisy.ensures)) refl

pub returns-in_err-link-clause-answered : goal.returns-in_err-link-clause-answered
returns-in_err-link-clause-answered c = λ w end both.
    let m = w.a.end.machine in
    let free = sym (c.refusal.ensures m both.of_near.link) ∙ c.in_default.is in
    let none = asked_cause c.args.request end c.args.number w c.args.near.now c.args.far.now c.asks.result false
    c.asking.result c.answering.result both free (c.asks.ensures m both.of_near.link) c.asking.ensures
    c.answering.ensures (sym c.if-is_noisy.false ∙ c.is_noisy.ensures) in
    memory_answered _ _ none c.from_residual.ensures.1

pub returns-in_err-acts-clause-answered : goal.returns-in_err-acts-clause-answered
returns-in_err-acts-clause-answered c = λ w end both.
    let m = w.a.end.machine in
    let free = sym (c.refusal.ensures m both.of_near.link) ∙ c.in_default.is in
    let none = asked_cause c.args.request end c.args.number w c.args.near.now c.args.far.now c.asks.result false
    c.asking.result c.answering.result both free (c.asks.ensures m both.of_near.link) c.asking.ensures
    c.answering.ensures (sym c.if-is_noisy.false ∙ c.is_noisy.ensures) in
    let copied : c.in_ok-link.link ≡ c.args.near.now.link = c.in_ok-link.ensures in
    let stands = subst (λ (l : HeldLink). LinkStandsFor l m) (sym copied) both.of_near.link in
    let memory : c.in_err-acts.field-0.0 ≡ LinkMemory = elim (c.in_err-acts.ensures.fault m stands) [
      | inl is ↦ is
      | inr refused ↦ absurd (let n : None ≡ Some c.in_err-acts.field-0.0 = sym free ∙ refused in cc)
    ] in
    let is : IsErrAnd c.from_residual-in_err-acts.result (λ f. f ≡ Memory) = search (rules, tests) in
    memory_answered _ _ none is

pub returns-in_err-told-clause-answered : goal.returns-in_err-told-clause-answered
returns-in_err-told-clause-answered c = λ w end both.
    let m = w.a.end.machine in
    let free = sym (c.refusal.ensures m both.of_near.link) ∙ c.in_default.is in
    let none = asked_cause c.args.request end c.args.number w c.args.near.now c.args.far.now c.asks.result false
    c.asking.result c.answering.result both free (c.asks.ensures m both.of_near.link) c.asking.ensures
    c.answering.ensures (sym c.if-is_noisy.false ∙ c.is_noisy.ensures) in
    memory_answered _ _ none c.from_residual-in_err-told.ensures.1

pub returns-clause-answered : goal.returns-clause-answered
returns-clause-answered c = λ w end both.
    let m = w.a.end.machine in
    let free = sym (c.refusal.ensures m both.of_near.link) ∙ c.in_default.is in
    answered_by _ _ _ (asked_cause c.args.request end c.args.number w c.args.near.now c.args.far.now c.asks.result false
    c.asking.result c.answering.result both free (c.asks.ensures m both.of_near.link) c.asking.ensures
    c.answering.ensures (sym c.if-is_noisy.false ∙ c.is_noisy.ensures)) tt

pub returns-clause-step : goal.returns-clause-step
returns-clause-step c = λ w end both.
    let event = seen_of c.args.request in
    let copied : c.in_ok-link.link ≡ c.args.near.now.link = c.in_ok-link.ensures in
    let steps : Steps event c.args.near.now.link c.ask.new.link c.in_ok-acts.acts =
    subst (λ (l : HeldLink). Steps event l c.ask.new.link c.in_ok-acts.acts) copied
    (record { does = c.in_ok-acts.ensures.step; stands = c.in_ok-acts.ensures.stands_for }) in
    let near : HeldSide = record { link = c.ask.new.link; towards = c.args.near.now.towards } in
    asked_made c.args.request end w c.args.near.now c.args.far.now near c.deliver.new.far c.in_ok-acts.acts
    c.in_ok-told.told.items both steps refl c.in_ok-told.ensures.link c.in_ok-told.ensures.flew

pub returns-clause-formed : goal.returns-clause-formed
returns-clause-formed c =
    let event = seen_of c.args.request in
    let copied : c.in_ok-link.link ≡ c.args.near.now.link = c.in_ok-link.ensures in
    let steps : Steps event c.args.near.now.link c.ask.new.link c.in_ok-acts.acts =
    subst (λ (l : HeldLink). Steps event l c.ask.new.link c.in_ok-acts.acts) copied
    (record { does = c.in_ok-acts.ensures.step; stands = c.in_ok-acts.ensures.stands_for }) in
    let near : HeldSide = record { link = c.ask.new.link; towards = c.args.near.now.towards } in
    record {
      of_near = near_formed event c.args.near.now near c.in_ok-acts.acts c.requires.of_near steps
          c.requires.of_near.frames;
      of_far = far_formed event false c.args.near.now near c.args.far.now c.deliver.new.far c.in_ok-acts.acts
          c.requires.of_near c.requires.of_far steps c.in_ok-told.ensures.link c.in_ok-told.ensures.flew.towards;
    }
