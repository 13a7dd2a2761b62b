use Rattle.link_machine.proofs.Common.{Bool, sym, subst, named, acknowledged_by_srej, Holds}
use Rattle.link_machine.proofs.machine.Machine.acknowledge_by_srej.Goals as goal

pub returns-then-flag-clause-holds : goal.returns-then-flag-clause-holds
returns-then-flag-clause-holds c = λ m h valid.
    let P : Bool → Type 0 = λ b. Holds c.acknowledge.new.self (acknowledged_by_srej (named c.args.nr m) b m) in
    subst P (sym c.if-flag.true) (c.acknowledge.ensures.holds m h valid)

pub returns-else-flag-clause-holds : goal.returns-else-flag-clause-holds
returns-else-flag-clause-holds c = λ m h valid.
    let P : Bool → Type 0 = λ b. Holds c.args.self.now (acknowledged_by_srej (named c.args.nr m) b m) in
    subst P (sym c.if-flag.false) h
