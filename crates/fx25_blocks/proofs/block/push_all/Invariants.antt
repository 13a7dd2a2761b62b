use Rattle.fx25_blocks.proofs.Common.{◌≡◌, ◌+◌, ◌++◌, take, length}
use Rattle.fx25_blocks.proofs.block.push_all.Given as goal

abbrev pub invariant-loop-octet : goal.invariant-loop-octet
invariant-loop-octet l = record {
  items : l.word.items ≡ l.initial.word.items ++ take l.octet-index l.octets;
  count : length l.word.items ≡ length l.initial.word.items + l.octet-index;
}
