use Rattle.reed_solomon.proofs.Common.{◌≡◌, ℕ, ◌+◌, ◌<◌, ◌≤◌, value_at}
use Rattle.reed_solomon.proofs.decoder.vanishes.Given as goal

abbrev pub invariant-loop-k : goal.invariant-loop-k
invariant-loop-k l = (j : ℕ) → l.code.first_root ≤ j → j < l.code.first_root + l.k → value_at j l.whole.items ≡ 0
