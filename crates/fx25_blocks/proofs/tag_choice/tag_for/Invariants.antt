-- The bits fit into no tag seen so far.
use Rattle.fx25_blocks.proofs.Common.{◌≡◌, ℕ, ◌-◌, ◌<◌, ◌≤◌, Fits, check_count}
use Rattle.fx25_blocks.proofs.tag_choice.tag_for.Given as goal

abbrev pub invariant-loop-place : goal.invariant-loop-place
invariant-loop-place l = (n : ℕ) → 11 - l.place < n → n ≤ 11 → check_count n ≡ l.checks → Fits n l.needed → ⊥
