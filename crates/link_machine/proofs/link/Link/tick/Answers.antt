use Rattle.link_machine.proofs.Common.{refl, sym, subst, Tick, StandsFor}
use Rattle.link_machine.specs.declared.machine.Machine.{Machine as Held}
use Rattle.link_machine.proofs.Answered.{answers_all}
use Rattle.link_machine.proofs.Writable.{kept_by}
use Rattle.link_machine.proofs.link.Link.tick.Goals as goal

pub invariant_of-self : goal.invariant_of-self
invariant_of-self c = (kept_by c.self.inside.machine c.tick.new.self (Tick c.args.still)
    c.tick.result c.self.invariant refl c.tick.ensures).0

pub returns-clause-writable : goal.returns-clause-writable
returns-clause-writable c = (kept_by c.self.inside.machine c.tick.new.self (Tick c.args.still)
    c.tick.result c.self.invariant refl c.tick.ensures).1

pub returns-clause-step : goal.returns-clause-step
returns-clause-step c = λ m h.
    let P : Held → Type 0 = λ x. StandsFor x m in
    (answers_all c.self.inside.machine c.tick.new.self (Tick c.args.still) c.tick.result (λ _. refl)
    c.self.invariant.whole c.tick.ensures m (subst P (sym c.self.view_is) h)).0

pub returns-clause-stands_for : goal.returns-clause-stands_for
returns-clause-stands_for c = λ m h.
    let P : Held → Type 0 = λ x. StandsFor x m in
    (answers_all c.self.inside.machine c.tick.new.self (Tick c.args.still) c.tick.result (λ _. refl)
    c.self.invariant.whole c.tick.ensures m (subst P (sym c.self.view_is) h)).1
