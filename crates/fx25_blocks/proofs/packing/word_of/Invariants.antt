use Rattle.fx25_blocks.proofs.Common.{◌≡◌, take}
use Rattle.fx25_blocks.proofs.packing.word_of.Given as goal

abbrev pub invariant-loop-octet : goal.invariant-loop-octet
invariant-loop-octet l = l.word.items ≡ take l.octet-index l.octets
