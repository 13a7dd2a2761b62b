use Rattle.reed_solomon.proofs.Common.{◌≡◌, ℕ, ◌<◌, false, eqb, get_or, length, value_at}
use Rattle.reed_solomon.proofs.roots.roots.Given as goal

abbrev pub invariant-loop-p : goal.invariant-loop-p
invariant-loop-p l = record {
  long : length l.roots ≡ 255;
  done : (p : ℕ) → p < l.p → get_or l.roots p false ≡ eqb (value_at p l.coefficients) 0;
}
