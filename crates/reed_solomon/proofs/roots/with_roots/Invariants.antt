-- The polynomial has the flagged roots before q, and no others.
use Rattle.reed_solomon.proofs.Common.{◌≡◌, ◌≢◌, ℕ, ◌<◌, true, false, get_or, take, length, ◌∷◌, count_true, value_at}
use Rattle.reed_solomon.proofs.ValueLemmas.{Octets}
use Rattle.reed_solomon.proofs.roots.with_roots.Given as goal

abbrev pub invariant-loop-q : goal.invariant-loop-q
invariant-loop-q l = record {
  octets : Octets l.rest.items;
  zero : (q : ℕ) → q < l.q → get_or l.flags q false ≡ true → value_at q (1 ∷ l.rest.items) ≡ 0;
  some : (q : ℕ) → q < 255 → get_or l.flags q false ≡ false → value_at q (1 ∷ l.rest.items) ≢ 0;
  count : length l.rest.items ≡ count_true (take l.q l.flags);
}
