-- The values of the last k roots, and then those of the others.
use Rattle.reed_solomon.proofs.Common.{◌≡◌, ◌-◌, ◌++◌, length, values_down}
use Rattle.reed_solomon.proofs.values.syndromes.Given as goal

abbrev pub invariant-loop-k : goal.invariant-loop-k
invariant-loop-k l = record {
  items : l.syndromes.items ++ values_down l.word l.first_root
      (l.count - l.k) ≡ values_down l.word l.first_root l.count;
  count : length l.syndromes.items ≡ l.k;
}
