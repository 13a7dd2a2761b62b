use Rattle.fx25_blocks.proofs.Common.{◌≡◌, low_bits}
use Rattle.fx25_blocks.proofs.packing.bits_of_64.Given as goal

abbrev pub invariant-loop-place : goal.invariant-loop-place
invariant-loop-place l = l.bits.items ≡ low_bits l.place l.value
