-- The octets that fewer than p others follow are right, the others are as they were.
use Rattle.reed_solomon.proofs.Common.{◌≡◌, ℕ, ◌+◌, ◌<◌, ◌≤◌, List, get_or, length, IsWrong}
use Rattle.reed_solomon.proofs.wrong_octets.correct.Given as goal

abbrev pub invariant-loop-p : goal.invariant-loop-p
invariant-loop-p l = record {
  done : (v : List ℕ) → IsWrong l.first_root (length l.syndromes) l.unknown l.initial.word v
      → (k : ℕ) → k < 255 → 254 < k + l.p → get_or l.word k 0 ≡ get_or v k 0;
  rest : (k : ℕ) → k + l.p ≤ 254 → get_or l.word k 0 ≡ get_or l.initial.word k 0;
}
