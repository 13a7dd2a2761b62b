-- The first rows are unit lists; the rows that are left meet the equations so far.
use Rattle.reed_solomon.proofs.Common.{◌≡◌, ℕ, ◌+◌, ◌<◌, ◌≤◌, ◌≢◌, get_or, take, drop, length, IsBasis, Meet, row}
use Rattle.reed_solomon.proofs.kernel.kernel.Given as goal

abbrev pub invariant-loop-k : goal.invariant-loop-k
invariant-loop-k l = record {
  long : length l.rows ≡ 33;
  here : (k : ℕ) → k < l.k → get_or (row l.rows k) k 0 ≡ 1;
  elsewhere : (k : ℕ) → k < l.k → (u : ℕ) → u ≢ k → get_or (row l.rows k) u 0 ≡ 0;
}

abbrev pub invariant-loop-i : goal.invariant-loop-i
invariant-loop-i l = record {
  left : l.most + 1 ≤ l.left + l.i;
  few : l.left ≤ 33;
  basis : IsBasis (l.most + 1) l.rows l.left;
  met : (i : ℕ) → i < l.i → Meet l.rows l.left (take (l.most + 1) (drop i l.syndromes));
}
