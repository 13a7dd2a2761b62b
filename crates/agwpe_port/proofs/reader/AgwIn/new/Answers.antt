use Rattle.std.proofs.Common.{[], subst, sym}
use Rattle.agwpe_port.specs.Held.{StandsFor, StandsForSome}
use Rattle.agwpe_port.proofs.HeldLemmas.{stands_new}
use Rattle.agwpe_port.proofs.reader.AgwIn.new.Goals as goal

pub invariant_of-result : goal.invariant_of-result
invariant_of-result c = subst StandsForSome (sym c.new.ensures) ([], stands_new)

pub returns : goal.returns
returns c = record { stands_for = subst (λ held. StandsFor held []) (sym c.new.ensures) stands_new }
