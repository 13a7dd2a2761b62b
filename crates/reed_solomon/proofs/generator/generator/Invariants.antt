use Rattle.reed_solomon.proofs.Common.{◌≡◌, length, generator_of}
use Rattle.reed_solomon.proofs.generator.generator.Given as goal

abbrev pub invariant-loop-k : goal.invariant-loop-k
invariant-loop-k l = record {
  items : l.rest.items ≡ generator_of l.first_root l.k;
  count : length l.rest.items ≡ l.k;
}
