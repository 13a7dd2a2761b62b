use Rattle.link_world.proofs.Common.{◌≡◌, Bool, List, drop, sym, subst, ap, ◌∙◌, refl, true, false, Some, None, All}
use Rattle.link_world.proofs.Common.{All-drop, Modulus, Told, Hear, InFlight, frame_read, CanFly, Flew, MadeStep, length}
use Rattle.link_world.proofs.Common.{nat_lt, rules, tests}
use Rattle.link_machine.specs.declared.machine.Machine.{Machine as HeldLink}
use Rattle.link_machine.specs.Event.Event.{Hear as LinkHear}
use Rattle.link_world.specs.declared.side.Side.{Side as HeldSide}
use Rattle.link_world.proofs.Causes.{heard_cause, missing_from, answered_by, memory_answered}
use Rattle.link_world.proofs.Counting.{Steps, near_formed, far_formed}
use Rattle.link_world.proofs.Sides.{ReadsFront, heard_made, passed_made}
use Rattle.link_world.proofs.happening.hear.Goals as goal

pub returns-in_default-clause-answered : goal.returns-in_default-clause-answered
returns-in_default-clause-answered c = λ w end both.
    let none : nat_lt 0 (length c.args.near.now.towards.items) ≡ false = search (rules, tests) in
    answered_by _ _ _ (missing_from (Hear end) c.args.number w c.args.near.now c.args.far.now both none) refl

pub returns-then-is_noisy-clause-answered : goal.returns-then-is_noisy-clause-answered
returns-then-is_noisy-clause-answered c = λ w end both.
    let m = w.a.end.machine in
    let heard = c.in-Some.heard.now in
    answered_by _ _ _ (heard_cause end c.args.number w c.args.near.now c.args.far.now heard c.asks_when_heard.result true
    c.asking.result c.answering-coming.result both c.in-Some.ensures.item.3.0 c.in-Some.ensures.lookup
    (c.asks_when_heard.ensures m both.of_near.link) c.asking.ensures c.answering-coming.ensures
    (sym c.if-is_noisy.true ∙ c.is_noisy.ensures)) refl

pub returns-in_err-frame-clause-answered : goal.returns-in_err-frame-clause-answered
returns-in_err-frame-clause-answered c = λ w end both.
    let m = w.a.end.machine in
    let heard = c.in-Some.heard.now in
    let none = heard_cause end c.args.number w c.args.near.now c.args.far.now heard c.asks_when_heard.result false
    c.asking.result c.answering-coming.result both c.in-Some.ensures.item.3.0 c.in-Some.ensures.lookup
    (c.asks_when_heard.ensures m both.of_near.link) c.asking.ensures c.answering-coming.ensures
    (sym c.if-is_noisy.false ∙ c.is_noisy.ensures) in
    memory_answered _ _ none c.from_residual.ensures.1

pub returns-in_default-2-clause-answered : goal.returns-in_default-2-clause-answered
returns-in_default-2-clause-answered c = λ w end both.
    let m = w.a.end.machine in
    let heard = c.in-Some.heard.now in
    answered_by _ _ _ (heard_cause end c.args.number w c.args.near.now c.args.far.now heard c.asks_when_heard.result false
    c.asking.result c.answering-coming.result both c.in-Some.ensures.item.3.0 c.in-Some.ensures.lookup
    (c.asks_when_heard.ensures m both.of_near.link) c.asking.ensures c.answering-coming.ensures
    (sym c.if-is_noisy.false ∙ c.is_noisy.ensures)) tt

pub returns-in_default-2-clause-step : goal.returns-in_default-2-clause-step
returns-in_default-2-clause-step c = λ w end both.
    let heard = c.in-Some.heard.now in
    let near : HeldSide = record { link = c.args.near.now.link; towards = c.pop_front.new.self } in
    let front : ReadsFront c.args.near.now heard None = record {
      some = c.in-Some.ensures.item.3.0;
      first = c.in-Some.ensures.lookup;
      read = ap (λ (m : Modulus). frame_read heard.sent.modulus m heard.sent.frame) (sym c.modulus.ensures.modulus)
          ∙ sym c.in_ok-frame.ensures.read ∙ c.in_default-2.is;
    } in
    let P : List Told → Type 0 = λ told. MadeStep (Hear end) w near c.args.far.now told in
    subst P (sym c.new.ensures.items)
    (passed_made end w c.args.near.now c.args.far.now near heard both front refl c.pop_front.ensures.rest)

pub returns-in_default-2-clause-formed : goal.returns-in_default-2-clause-formed
returns-in_default-2-clause-formed c =
    let P : List InFlight → Type 0 = λ items. All CanFly items in
    record {
      of_near = record {
        link = c.requires.of_near.link;
        frames = subst P (sym c.pop_front.ensures.rest) (All-drop CanFly 1 c.args.near.now.towards.items
            c.requires.of_near.frames);
      };
      of_far = c.requires.of_far;
    }

pub returns-in_err-link-clause-answered : goal.returns-in_err-link-clause-answered
returns-in_err-link-clause-answered c = λ w end both.
    let m = w.a.end.machine in
    let heard = c.in-Some.heard.now in
    let none = heard_cause end c.args.number w c.args.near.now c.args.far.now heard c.asks_when_heard.result false
    c.asking.result c.answering-coming.result both c.in-Some.ensures.item.3.0 c.in-Some.ensures.lookup
    (c.asks_when_heard.ensures m both.of_near.link) c.asking.ensures c.answering-coming.ensures
    (sym c.if-is_noisy.false ∙ c.is_noisy.ensures) in
    memory_answered _ _ none c.from_residual-in_err-link.ensures.1

pub returns-in_err-acts-clause-answered : goal.returns-in_err-acts-clause-answered
returns-in_err-acts-clause-answered c = λ w end both.
    let m = w.a.end.machine in
    let heard = c.in-Some.heard.now in
    let none = heard_cause end c.args.number w c.args.near.now c.args.far.now heard c.asks_when_heard.result false
    c.asking.result c.answering-coming.result both c.in-Some.ensures.item.3.0 c.in-Some.ensures.lookup
    (c.asks_when_heard.ensures m both.of_near.link) c.asking.ensures c.answering-coming.ensures
    (sym c.if-is_noisy.false ∙ c.is_noisy.ensures) in
    memory_answered _ _ none c.from_residual-in_err-acts.ensures.1

pub returns-in_err-told-clause-answered : goal.returns-in_err-told-clause-answered
returns-in_err-told-clause-answered c = λ w end both.
    let m = w.a.end.machine in
    let heard = c.in-Some.heard.now in
    let none = heard_cause end c.args.number w c.args.near.now c.args.far.now heard c.asks_when_heard.result false
    c.asking.result c.answering-coming.result both c.in-Some.ensures.item.3.0 c.in-Some.ensures.lookup
    (c.asks_when_heard.ensures m both.of_near.link) c.asking.ensures c.answering-coming.ensures
    (sym c.if-is_noisy.false ∙ c.is_noisy.ensures) in
    memory_answered _ _ none c.from_residual-in_err-told.ensures.1

pub returns-clause-answered : goal.returns-clause-answered
returns-clause-answered c = λ w end both.
    let m = w.a.end.machine in
    let heard = c.in-Some.heard.now in
    answered_by _ _ _ (heard_cause end c.args.number w c.args.near.now c.args.far.now heard c.asks_when_heard.result false
    c.asking.result c.answering-coming.result both c.in-Some.ensures.item.3.0 c.in-Some.ensures.lookup
    (c.asks_when_heard.ensures m both.of_near.link) c.asking.ensures c.answering-coming.ensures
    (sym c.if-is_noisy.false ∙ c.is_noisy.ensures)) tt

pub returns-clause-step : goal.returns-clause-step
returns-clause-step c = λ w end both.
    let heard = c.in-Some.heard.now in
    let frame = c.in-Some-2.frame in
    let event = LinkHear frame in
    let copied : c.in_ok-link.link ≡ c.args.near.now.link = c.in_ok-link.ensures in
    let steps : Steps event c.args.near.now.link c.frame.new.self c.in_ok-acts.acts =
    subst (λ (l : HeldLink). Steps event l c.frame.new.self c.in_ok-acts.acts) copied
    (record { does = c.in_ok-acts.ensures.step; stands = c.in_ok-acts.ensures.stands_for }) in
    let near : HeldSide = record { link = c.frame.new.self; towards = c.pop_front-2.new.self } in
    let front : ReadsFront c.args.near.now heard (Some frame) = record {
      some = c.in-Some.ensures.item.3.0;
      first = c.in-Some.ensures.lookup;
      read = ap (λ (m : Modulus). frame_read heard.sent.modulus m heard.sent.frame) (sym c.modulus.ensures.modulus)
          ∙ sym c.in_ok-frame.ensures.read ∙ c.in-Some-2.is;
    } in
    let P : Bool → Type 0 =
    λ b. Flew c.in_ok-acts.acts b c.args.far.now.towards.items c.deliver.new.far.towards.items
    c.in_ok-told.told.items in
    heard_made end w c.args.near.now c.args.far.now near c.deliver.new.far heard frame c.in_ok-acts.acts
    c.in_ok-told.told.items both steps front c.pop_front-2.ensures.rest c.in_ok-told.ensures.link
    (subst P c.asks.ensures c.in_ok-told.ensures.flew)

pub returns-clause-formed : goal.returns-clause-formed
returns-clause-formed c =
    let event = LinkHear c.in-Some-2.frame in
    let copied : c.in_ok-link.link ≡ c.args.near.now.link = c.in_ok-link.ensures in
    let steps : Steps event c.args.near.now.link c.frame.new.self c.in_ok-acts.acts =
    subst (λ (l : HeldLink). Steps event l c.frame.new.self c.in_ok-acts.acts) copied
    (record { does = c.in_ok-acts.ensures.step; stands = c.in_ok-acts.ensures.stands_for }) in
    let near : HeldSide = record { link = c.frame.new.self; towards = c.pop_front-2.new.self } in
    let P : List InFlight → Type 0 = λ items. All CanFly items in
    record {
      of_near = near_formed event c.args.near.now near c.in_ok-acts.acts c.requires.of_near steps
          (subst P (sym c.pop_front-2.ensures.rest) (All-drop CanFly 1 c.args.near.now.towards.items
          c.requires.of_near.frames));
      of_far = far_formed event c.asks.result c.args.near.now near c.args.far.now c.deliver.new.far c.in_ok-acts.acts
          c.requires.of_near c.requires.of_far steps c.in_ok-told.ensures.link c.in_ok-told.ensures.flew.towards;
    }
