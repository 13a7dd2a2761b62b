use Rattle.link_machine.proofs.Common.{refl, sym, subst, Seize, StandsFor}
use Rattle.link_machine.specs.declared.machine.Machine.{Machine as Held}
use Rattle.link_machine.proofs.Answered.{answers_all}
use Rattle.link_machine.proofs.Writable.{kept_by}
use Rattle.link_machine.proofs.link.Link.seize.Goals as goal

pub invariant_of-self : goal.invariant_of-self
invariant_of-self c = (kept_by c.self.inside.machine c.seize.new.self (Seize c.args.last c.args.full)
    c.seize.result c.self.invariant refl c.seize.ensures).0

pub returns-clause-writable : goal.returns-clause-writable
returns-clause-writable c = (kept_by c.self.inside.machine c.seize.new.self (Seize c.args.last c.args.full)
    c.seize.result c.self.invariant refl c.seize.ensures).1

pub returns-clause-step : goal.returns-clause-step
returns-clause-step c = λ m h.
    let P : Held → Type 0 = λ x. StandsFor x m in
    (answers_all c.self.inside.machine c.seize.new.self (Seize c.args.last c.args.full) c.seize.result (λ _. refl)
    c.self.invariant.whole c.seize.ensures m (subst P (sym c.self.view_is) h)).0

pub returns-clause-stands_for : goal.returns-clause-stands_for
returns-clause-stands_for c = λ m h.
    let P : Held → Type 0 = λ x. StandsFor x m in
    (answers_all c.self.inside.machine c.seize.new.self (Seize c.args.last c.args.full) c.seize.result (λ _. refl)
    c.self.invariant.whole c.seize.ensures m (subst P (sym c.self.view_is) h)).1
