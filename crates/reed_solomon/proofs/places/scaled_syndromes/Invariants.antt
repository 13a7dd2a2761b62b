-- The sums so far, and then the values that are left, are those of the errors scaled, whichever they are.
use Rattle.reed_solomon.proofs.Common.{◌≡◌, ℕ, ◌-◌, ◌<◌, List, ◌++◌, All, length, values_down, scaled}
use Rattle.reed_solomon.proofs.places.scaled_syndromes.Given as goal

abbrev pub invariant-loop-k : goal.invariant-loop-k
invariant-loop-k l = record {
  values : (first : ℕ) (errors : List ℕ) → All (λ x. x < 256) errors
      → l.syndromes ≡ values_down errors first (length l.syndromes)
      → l.scaled.items ++ values_down (scaled l.factors errors) first (l.count - l.k)
      ≡ values_down (scaled l.factors errors) first l.count;
  size : length l.scaled.items ≡ l.k;
}
