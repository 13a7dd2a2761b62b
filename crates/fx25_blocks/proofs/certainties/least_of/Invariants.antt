use Rattle.fx25_blocks.proofs.Common.{◌≡◌, ◌≤◌, min, drop}
use Rattle.fx25_blocks.specs.UnsureBlocks.{least_of}
use Rattle.fx25_blocks.proofs.certainties.least_of.Given as goal

abbrev pub invariant-loop-number : goal.invariant-loop-number
invariant-loop-number l = record {
  value : min l.least (least_of (drop l.number-index l.numbers)) ≡ least_of l.numbers;
  most : l.least ≤ 4294967295;
}
