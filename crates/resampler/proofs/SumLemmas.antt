-- Sums that more samples do not change, and zeros at the end.
use Rattle.resampler.proofs.Common.{◌≡◌, ℕ, ◌+◌, ◌≤◌, ◌<◌, ℤ, pos, List, ◌++◌, length, get_or, ap, sym, ◌∙◌, inl}
use Rattle.resampler.proofs.Common.{inr, refl, ◌-◌, ◌*ℤ◌, arith, length-replicate, taps, sum_below-agree, zeros, weighted_sum}
use Rattle.std.proofs.lemmas.Bool.{cases_lt}
use Rattle.std.proofs.lemmas.List.{get_or_append_left, get_or-append_right, get_or-replicate, get_or_past}

pub sum_agree : (x y : List ℤ) (n : ℕ) → ((i : ℕ) → i < 31 → get_or x (n + i) (pos 0) ≡ get_or y (n + i) (pos 0))
    → weighted_sum x n ≡ weighted_sum y n
unfolding weighted_sum
sum_agree x y n agree =
    sum_below-agree (λ i. get_or x (n + i) (pos 0) *ℤ get_or taps i (pos 0))
    (λ i. get_or y (n + i) (pos 0) *ℤ get_or taps i (pos 0)) 31
    (λ i below. ap (λ s. s *ℤ get_or taps i (pos 0)) (agree i below))

-- more samples do not change a sum of samples that are there
pub sum_stays : (x y : List ℤ) (n : ℕ) → n + 31 ≤ length x → weighted_sum (x ++ y) n ≡ weighted_sum x n
sum_stays x y n inside = sum_agree (x ++ y) x n (λ i below. get_or_append_left x y (pos 0) (n + i) (omega arith))

zero_anywhere : (count i : ℕ) → get_or (zeros count) i (pos 0) ≡ pos 0
zero_anywhere count i = elim (cases_lt i count) [
  | inl inside ↦ get_or-replicate count i (pos 0) (pos 0) inside
  | inr past ↦ get_or_past (zeros count) i (pos 0) (omega (arith, length-replicate count (pos 0)))
]

zeros_past : (x : List ℤ) (count k : ℕ) → get_or (x ++ zeros count) k (pos 0) ≡ get_or x k (pos 0)
zeros_past x count k = elim (cases_lt k (length x)) [
  | inl inside ↦ get_or_append_left x (zeros count) (pos 0) k inside
  | inr past ↦ get_or-append_right x (zeros count) (length x) k (pos 0) refl past
      ∙ zero_anywhere count (k - length x)
      ∙ sym (get_or_past x k (pos 0) past)
]

-- nor do zeros
pub sum_past : (x : List ℤ) (count n : ℕ) → weighted_sum (x ++ zeros count) n ≡ weighted_sum x n
sum_past x count n = sum_agree (x ++ zeros count) x n (λ i below. zeros_past x count (n + i))
