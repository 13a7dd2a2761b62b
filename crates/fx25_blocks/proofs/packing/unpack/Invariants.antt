use Rattle.fx25_blocks.proofs.Common.{◌≡◌, take, sent_bits}
use Rattle.fx25_blocks.proofs.packing.unpack.Given as goal

abbrev pub invariant-loop-octet : goal.invariant-loop-octet
invariant-loop-octet l = l.bits.items ≡ sent_bits (take l.octet-index l.octets)
