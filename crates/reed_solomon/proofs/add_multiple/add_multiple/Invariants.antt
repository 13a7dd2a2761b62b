-- The octets before i have taken their multiples, the others are as they were.
use Rattle.reed_solomon.proofs.Common.{◌≡◌, ℕ, ◌<◌, ◌≤◌, get_or, bit_xor, product}
use Rattle.reed_solomon.proofs.add_multiple.add_multiple.Given as goal

abbrev pub invariant-loop-i : goal.invariant-loop-i
invariant-loop-i l = record {
  done : (k : ℕ) → k < l.i → get_or l.octets k 0
      ≡ bit_xor (get_or l.initial.octets k 0) (product l.factor (get_or l.others k 0));
  rest : (k : ℕ) → l.i ≤ k → get_or l.octets k 0 ≡ get_or l.initial.octets k 0;
}
