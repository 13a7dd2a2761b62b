-- A constant keeps its level: the taps add up to 1024.
use Rattle.resampler.proofs.Common.{◌≡◌, ℕ, zero, suc, ◌+◌, ◌*◌, ◌≤◌, ◌<◌, ℤ, pos, ◌*ℤ◌, ◌+ℤ◌, List, ◌++◌, length, get_or}
use Rattle.resampler.proofs.Common.{replicate, refl, ap, sym, ◌-◌, ◌/◌, ◌∙◌, arith, length-replicate, taps, sum_below, zeros}
use Rattle.resampler.proofs.Common.{sum_below-agree, weighted_sum, nearest_sample, sample_of_sum, filtered_at, filtered}
use Rattle.std.proofs.Common.{cond, neg_ℤ}
use Rattle.std.specs.Int.{int_div_euclid, int_max}
use Rattle.std.proofs.Math.IntN.{zero-*ℤ, *ℤ_comm}
use Rattle.std.proofs.lemmas.Bool.{le-ltb}
use Rattle.std.proofs.lemmas.List.{get_or-append_right, get_or-replicate}
use Rattle.std.proofs.lemmas.List.FromFn.{get_or-map-range_with_len}
use Rattle.offset_slicers.proofs.IntegerLemmas.{mul-add_left}

sum_scaled : (level : ℤ) (f : ℕ → ℤ) (n : ℕ) → sum_below (λ i. level *ℤ f i) n ≡ sum_below f n *ℤ level
unfolding sum_below
sum_scaled level f zero = sym (zero-*ℤ level)
sum_scaled level f (suc n) =
    ap (λ s. s +ℤ level *ℤ f n) (sum_scaled level f n)
    ∙ ap (λ s. sum_below f n *ℤ level +ℤ s) (*ℤ_comm level (f n))
    ∙ sym (mul-add_left (sum_below f n) (f n) level)

sum_of_taps : sum_below (λ i. get_or taps i (pos 0)) 31 ≡ pos 1024
unfolding sum_below
sum_of_taps = refl

-- every sample that the filter looks at is the constant
same_sample : (level count n i : ℕ) → 15 ≤ n → n + 15 < count → i < 31
    → get_or (zeros 15 ++ replicate count (pos level)) (n + i) (pos 0) ≡ pos level
same_sample level count n i low high below =
    get_or-append_right (zeros 15) (replicate count (pos level)) 15 (n + i) (pos 0) (length-replicate 15 (pos 0))
    (omega arith)
    ∙ get_or-replicate count (n + i - 15) (pos level) (pos 0) (omega arith)

sum_of_constant : (level count n : ℕ) → 15 ≤ n → n + 15 < count
    → weighted_sum (zeros 15 ++ replicate count (pos level)) n ≡ pos 1024 *ℤ pos level
unfolding weighted_sum
sum_of_constant level count n low high =
    sum_below-agree (λ i. get_or (zeros 15 ++ replicate count (pos level)) (n + i) (pos 0) *ℤ get_or taps i (pos 0))
    (λ i. pos level *ℤ get_or taps i (pos 0)) 31
    (λ i below. ap (λ s. s *ℤ get_or taps i (pos 0)) (same_sample level count n i low high below))
    ∙ sum_scaled (pos level) (λ i. get_or taps i (pos 0)) 31
    ∙ ap (λ s. s *ℤ pos level) sum_of_taps

back : (level : ℕ) → level ≤ 32767 → sample_of_sum (pos 1024 *ℤ pos level) ≡ pos level
back level small =
    let part : 1024 * level / 1024 ≡ level = omega arith in
    ap (λ n. nearest_sample (pos n)) part
    ∙ ap (λ b. int_max (neg_ℤ (pos 32768)) (cond b (pos 32767) (pos level))) (le-ltb 32767 level small)

pub constant : (level count n : ℕ) → level ≤ 32767 → 15 ≤ n → n + 15 < count
    → get_or (filtered (replicate count (pos level))) n (pos 0) ≡ pos level
constant level count n small low high =
    let all : List ℤ = replicate count (pos level) in
    let inside : n < length all = omega (arith, length-replicate count (pos level)) in
    get_or-map-range_with_len (filtered_at all) 0 (length all) n n (pos 0) inside (omega arith)
    ∙ ap sample_of_sum (sum_of_constant level count n low high)
    ∙ back level small
