use Rattle.reed_solomon.proofs.Common.{◌≡◌, ◌+◌, ◌++◌, replicate, length}
use Rattle.reed_solomon.proofs.words.push_zeros.Given as goal

abbrev pub invariant-loop : goal.invariant-loop
invariant-loop l = record {
  items : l.word.items ≡ l.initial.word.items ++ replicate l.counter 0;
  count : length l.word.items ≡ length l.initial.word.items + l.counter;
}
