use Rattle.reed_solomon.proofs.Common.{◌≡◌, ◌+◌, ◌∷◌, take, length}
use Rattle.reed_solomon.proofs.generator.with_highest.Given as goal

abbrev pub invariant-loop-coefficient : goal.invariant-loop-coefficient
invariant-loop-coefficient l = record {
  items : l.all.items ≡ 1 ∷ take l.coefficient-index l.rest;
  count : length l.all.items ≡ l.coefficient-index + 1;
}
