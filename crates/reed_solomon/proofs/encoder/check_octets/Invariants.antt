-- The register has taken the octets so far, and then the zeros so far.
use Rattle.reed_solomon.proofs.Common.{◌≡◌, ◌++◌, replicate, length, take, fold, taken}
use Rattle.reed_solomon.proofs.encoder.check_octets.Given as goal

abbrev pub invariant-loop-octet : goal.invariant-loop-octet
invariant-loop-octet l = record {
  register : l.register.items ≡ fold (taken l.generator.items) (replicate l.code.check_count 0)
      (take l.octet-index l.octets);
  count : length l.register.items ≡ l.code.check_count;
}

abbrev pub invariant-loop : goal.invariant-loop
invariant-loop l = record {
  register : l.register.items ≡ fold (taken l.generator.items) (replicate l.code.check_count 0)
      (l.octets ++ replicate l.counter 0);
  count : length l.register.items ≡ l.code.check_count;
}
