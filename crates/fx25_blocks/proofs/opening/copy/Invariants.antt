use Rattle.fx25_blocks.proofs.Common.{◌≡◌, take}
use Rattle.fx25_blocks.proofs.opening.copy.Given as goal

abbrev pub invariant-loop-octet : goal.invariant-loop-octet
invariant-loop-octet l = l.copy.items ≡ take l.octet-index l.octets
