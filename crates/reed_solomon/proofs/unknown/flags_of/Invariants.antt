use Rattle.reed_solomon.proofs.Common.{◌≡◌, ℕ, ◌-◌, ◌<◌, false, eqb, get_or, length}
use Rattle.reed_solomon.proofs.unknown.flags_of.Given as goal

abbrev pub invariant-loop-p : goal.invariant-loop-p
invariant-loop-p l = record {
  long : length l.flags ≡ 255;
  done : (p : ℕ) → p < l.p → get_or l.flags p false ≡ eqb (get_or l.marks (254 - p) 0) 1;
}
