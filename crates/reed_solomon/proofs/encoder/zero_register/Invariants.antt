use Rattle.reed_solomon.proofs.Common.{◌≡◌, replicate, length}
use Rattle.reed_solomon.proofs.encoder.zero_register.Given as goal

abbrev pub invariant-loop : goal.invariant-loop
invariant-loop l = record {
  items : l.register.items ≡ replicate l.counter 0;
  count : length l.register.items ≡ l.counter;
}
