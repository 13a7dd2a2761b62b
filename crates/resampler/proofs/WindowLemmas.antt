-- The last 31 samples, and those with one sample more.
use Rattle.resampler.proofs.Common.{◌≡◌, ℕ, ◌+◌, ◌≤◌, ℤ, pos, List, [], ◌∷◌, ◌++◌, length, get_or, take, drop, set, ap}
use Rattle.resampler.proofs.Common.{sym, ◌∙◌, ◌*ℤ◌, ◌<◌, arith, append_assoc, length-append, length-drop, length_push}
use Rattle.resampler.proofs.Common.{length-replicate, taps, sum_below, product_of, sum_below-agree, zeros}
use Rattle.resampler.proofs.Common.{weighted_sum, last_window}
use Rattle.std.specs.List.{copy_within}
use Rattle.std.proofs.lemmas.List.{drop-append-le, drop-drop, drop-set-add, drop-take, take_more_set, get_or-drop}
use Rattle.std.proofs.lemmas.List.{get_or-append-add}
use Rattle.std.proofs.lemmas.List.Edits.{take-paste}

pub length-last_window : (x : List ℤ) → length (last_window x) ≡ 31
length-last_window x = omega (
  arith,
  length-drop (length x) (zeros 31 ++ x),
  length-append (zeros 31) x,
  length-replicate 31 (pos 0),
)

-- with one sample more
pub last_window-push : (x : List ℤ) (sample : ℤ) → last_window (x ++ sample ∷ [])
    ≡ drop 1 (last_window x) ++ sample ∷ []
last_window-push x sample =
    let inside : length x ≤ length (zeros 31 ++ x) = omega (arith, length-append (zeros 31) x) in
    let some : 1 ≤ length (last_window x) = omega (arith, length-last_window x) in
    ap (λ n. drop n (zeros 31 ++ (x ++ sample ∷ []))) (length_push x sample)
    ∙ ap (λ l. drop (length x + 1) l) (sym (append_assoc (zeros 31) x (sample ∷ [])))
    ∙ sym (drop-drop 1 (length x) ((zeros 31 ++ x) ++ sample ∷ []))
    ∙ ap (drop 1) (drop-append-le (length x) (zeros 31 ++ x) (sample ∷ []) inside)
    ∙ drop-append-le 1 (last_window x) (sample ∷ []) some

-- 31 of the samples that are kept, moved on by one place, with a new one at the end
next_part : (samples : List ℤ) (begin : ℕ) → take 30 (drop (begin + 1) samples) ≡ drop 1 (take 31 (drop begin samples))
next_part samples begin = ap (take 30) (sym (drop-drop 1 begin samples)) ∙ sym (drop-take 1 30 (drop begin samples))

pub slid_on : (samples : List ℤ) (begin : ℕ) (sample : ℤ) → begin + 31 < length samples
    → take 31 (drop (begin + 1) (set samples (begin + 31) sample)) ≡ drop 1 (take 31 (drop begin samples)) ++ sample ∷ []
slid_on samples begin sample inside =
    let rest : List ℤ = drop (begin + 1) samples in
    let last : 30 < length rest = omega (arith, length-drop (begin + 1) samples) in
    let at : begin + 31 ≡ begin + 1 + 30 = omega arith in
    ap (λ i. take 31 (drop (begin + 1) (set samples i sample))) at
    ∙ ap (take 31) (drop-set-add (begin + 1) samples 30 sample)
    ∙ take_more_set rest 30 sample last
    ∙ ap (λ w. w ++ sample ∷ []) (next_part samples begin)

-- so from the front, where the last thirty have been moved
pub slid_back : (samples moved : List ℤ) (sample : ℤ) → length samples ≡ 512 → length moved ≡ length samples
    → moved ≡ copy_within samples 482 512 0
    → take 31 (set moved 30 sample) ≡ drop 1 (take 31 (drop 481 samples)) ++ sample ∷ []
slid_back samples moved sample whole same is =
    take_more_set moved 30 sample (omega arith)
    ∙ ap (λ w. take 30 w ++ sample ∷ []) is
    ∙ ap (λ w. w ++ sample ∷ []) (take-paste samples 0 (drop 482 samples) 30 (omega arith)
    (omega (arith, length-drop 482 samples)))
    ∙ ap (λ w. w ++ sample ∷ []) (next_part samples 481)

-- a place of the window, where fewer zeros stand before the samples
window_place : (more front n i : ℕ) (u : List ℤ) → zeros 31 ≡ zeros more ++ zeros front → length u ≡ n + more
    → get_or (last_window u) i (pos 0) ≡ get_or (zeros front ++ u) (n + i) (pos 0)
window_place more front n i u split size =
    let at : length u + i ≡ length (zeros more) + (n + i) = omega (arith, length-replicate more (pos 0)) in
    get_or-drop (length u) (zeros 31 ++ u) i (pos 0)
    ∙ ap (λ z. get_or (z ++ u) (length u + i) (pos 0)) split
    ∙ ap (λ l. get_or l (length u + i) (pos 0)) (append_assoc (zeros more) (zeros front) u)
    ∙ ap (λ k. get_or (zeros more ++ (zeros front ++ u)) k (pos 0)) at
    ∙ get_or-append-add (zeros more) (zeros front ++ u) (n + i) (pos 0)

-- so the sum of the window is that of 31 samples from a place on
pub window_sum : (more front n : ℕ) (u : List ℤ) → zeros 31 ≡ zeros more ++ zeros front → length u ≡ n + more
    → sum_below (product_of (last_window u) taps) 31 ≡ weighted_sum (zeros front ++ u) n
unfolding weighted_sum
window_sum more front n u split size =
    sum_below-agree (product_of (last_window u) taps)
    (λ i. get_or (zeros front ++ u) (n + i) (pos 0) *ℤ get_or taps i (pos 0)) 31
    (λ i below. ap (λ s. s *ℤ get_or taps i (pos 0)) (window_place more front n i u split size))
