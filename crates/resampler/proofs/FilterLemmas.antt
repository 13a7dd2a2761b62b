-- The filtered samples: those that the samples settle, and those with a sample more.
use Rattle.resampler.proofs.Common.{◌≡◌, ℕ, ◌+◌, ◌-◌, ◌≤◌, ◌<◌, ℤ, pos, List, [], ◌∷◌, ◌++◌, length, take, get_or, map, drop}
use Rattle.resampler.proofs.Common.{refl, ap, sym, ◌∙◌, arith, append_assoc, append-nil, length-append, length_push}
use Rattle.resampler.proofs.Common.{length-replicate, map-range_with_len_more, take-map-range_with_len, range_with_len}
use Rattle.resampler.proofs.Common.{taps, sum_below, product_of, zeros, weighted_sum, sample_of_sum, filtered_at}
use Rattle.resampler.proofs.Common.{filtered_first, filtered, settled, last_window, ◌*◌, ◌/◌, to_z, of_z, w16, FitsSigned}
use Rattle.resampler.proofs.Common.{to_z-of_z, decimated, decimated_first, decimated_settled}
use Rattle.std.proofs.Common.{w32}
use Rattle.std.proofs.lemmas.List.FromFn.{fill_by_all, get_or-map-range_with_len, length-map-range_with_len}
use Rattle.std.proofs.lemmas.List.{take-append-drop}
use Rattle.resampler.proofs.WindowLemmas.{window_sum}
use Rattle.resampler.proofs.SumLemmas.{sum_stays, sum_past}

-- more samples do not change what is fifteen samples before the end
pub at_stays : (x y : List ℤ) (n : ℕ) → n + 16 ≤ length x → filtered_at (x ++ y) n ≡ filtered_at x n
at_stays x y n inside =
    let enough : n + 31 ≤ length (zeros 15 ++ x) = omega (
      arith,
      length-append (zeros 15) x,
      length-replicate 15 (pos 0),
    ) in
    ap (λ l. sample_of_sum (weighted_sum l n)) (sym (append_assoc (zeros 15) x y))
    ∙ ap sample_of_sum (sum_stays (zeros 15 ++ x) y n enough)

-- zeros at the end change nothing
pub at_end : (x : List ℤ) (count n : ℕ) → filtered_at (x ++ zeros count) n ≡ filtered_at x n
at_end x count n =
    ap (λ l. sample_of_sum (weighted_sum l n)) (sym (append_assoc (zeros 15) x (zeros count)))
    ∙ ap sample_of_sum (sum_past (zeros 15 ++ x) count n)

pub map_agree : (f g : ℕ → ℤ) (count : ℕ) → ((n : ℕ) → n < count → f n ≡ g n)
    → map f (range_with_len 0 count) ≡ map g (range_with_len 0 count)
map_agree f g count agree =
    fill_by_all g (map f (range_with_len 0 count)) count (pos 0) (length-map-range_with_len f 0 count)
    (λ n below. get_or-map-range_with_len f 0 count n n (pos 0) below (omega arith) ∙ agree n below)

-- the first of them, with more samples
pub first_stays : (count : ℕ) (x y : List ℤ) → count ≤ length x - 15
    → filtered_first count (x ++ y) ≡ filtered_first count x
first_stays count x y few = map_agree (filtered_at (x ++ y)) (filtered_at x) count
    (λ n below. at_stays x y n (omega arith))

-- ---- laws

pub settles : (x y : List ℤ) → take (length x - 15) (filtered (x ++ y)) ≡ settled x
settles x y =
    let inside : length x - 15 ≤ length (x ++ y) = omega (arith, length-append x y) in
    take-map-range_with_len (filtered_at (x ++ y)) 0 (length (x ++ y)) (length x - 15) inside
    ∙ first_stays (length x - 15) x y (omega arith)

pub ends : (x : List ℤ) → settled (x ++ zeros 15) ≡ filtered x
ends x =
    let size : length (x ++ zeros 15) - 15 ≡ length x = omega (
      arith,
      length-append x (zeros 15),
      length-replicate 15 (pos 0),
    ) in
    ap (λ n. filtered_first n (x ++ zeros 15)) size
    ∙ map_agree (filtered_at (x ++ zeros 15)) (filtered_at x) (length x) (λ n below. at_end x 15 n)

-- so the filtered samples, and those of more samples, begin with what is settled
pub length-settled : (x : List ℤ) → length (settled x) ≡ length x - 15
length-settled x = length-map-range_with_len (filtered_at x) 0 (length x - 15)

pub filtered_begins : (x y : List ℤ) → (rest : List ℤ) × (filtered (x ++ y) ≡ settled x ++ rest)
filtered_begins x y =
    let n : ℕ = length x - 15 in
    let all : List ℤ = filtered (x ++ y) in
    (drop n all, sym (take-append-drop n all) ∙ ap (λ l. l ++ drop n all) (settles x y))

pub filtered_parts : (x : List ℤ) → (rest : List ℤ) × (filtered x ≡ settled x ++ rest)
filtered_parts x =
    let begins = filtered_begins x [] in
    (begins.0, ap filtered (sym (append-nil x)) ∙ begins.1)

-- ---- a sample more

pub settled-none : (x : List ℤ) (sample : ℤ) → length x < 15 → settled (x ++ sample ∷ []) ≡ settled x ++ []
settled-none x sample few =
    let none : length x - 15 ≡ 0 = omega arith in
    let still : length (x ++ sample ∷ []) - 15 ≡ 0 = omega (arith, length_push x sample) in
    ap (λ n. filtered_first n (x ++ sample ∷ [])) still
    ∙ ap (λ n. filtered_first n x) (sym none)
    ∙ sym (append-nil (settled x))

pub settled-more : (x : List ℤ) (sample given : ℤ) → 15 ≤ length x
    → given ≡ sample_of_sum (sum_below (product_of (last_window (x ++ sample ∷ [])) taps) 31)
    → settled (x ++ sample ∷ []) ≡ settled x ++ given ∷ []
settled-more x sample given enough is =
    let all : List ℤ = x ++ sample ∷ [] in
    let n : ℕ = length x - 15 in
    let more : length all - 15 ≡ n + 1 = omega (arith, length_push x sample) in
    let size : length all ≡ n + 16 = omega (arith, length_push x sample) in
    let here : filtered_at all n ≡ given = ap sample_of_sum (sym (window_sum 16 15 n all refl size)) ∙ sym is in
    ap (λ k. filtered_first k all) more
    ∙ map-range_with_len_more (filtered_at all) 0 n n (omega arith)
    ∙ ap (λ l. l ++ filtered_at all n ∷ []) (first_stays n x (sample ∷ []) (omega arith))
    ∙ ap (λ z. settled x ++ z ∷ []) here

-- a sample as it is passed and given back
pub given_is : (sum given : ℤ) → FitsSigned w32 sum → FitsSigned w16 given
    → given ≡ sample_of_sum (to_z w32 (of_z w32 sum))
    → to_z w16 (of_z w16 given) ≡ sample_of_sum sum
given_is sum given sum_fits fits is = to_z-of_z w16 given fits ∙ is ∙ ap sample_of_sum (to_z-of_z w32 sum sum_fits)

-- ---- each fifth of them

pub decimated_ends : (x : List ℤ) → decimated_settled (x ++ zeros 15) ≡ decimated x
decimated_ends x =
    let size : (length (x ++ zeros 15) - 15 + 4) / 5 ≡ (length x + 4) / 5 = omega (
      arith,
      length-append x (zeros 15),
      length-replicate 15 (pos 0),
    ) in
    ap (λ n. decimated_first n (x ++ zeros 15)) size
    ∙ map_agree (λ k. filtered_at (x ++ zeros 15) (5 * k)) (λ k. filtered_at x (5 * k)) ((length x + 4) / 5)
    (λ k below. at_end x 15 (5 * k))

pub fifths_stay : (count : ℕ) (x y : List ℤ) → count ≤ (length x - 15 + 4) / 5
    → decimated_first count (x ++ y) ≡ decimated_first count x
fifths_stay count x y few = map_agree (λ k. filtered_at (x ++ y) (5 * k)) (λ k. filtered_at x (5 * k)) count
    (λ k below. at_stays x y (5 * k) (omega arith))

pub decimated_settles : (x y : List ℤ) → take ((length x - 15 + 4) / 5) (decimated (x ++ y)) ≡ decimated_settled x
decimated_settles x y =
    let count : ℕ = (length x - 15 + 4) / 5 in
    let all : ℕ = (length (x ++ y) + 4) / 5 in
    let inside : count ≤ all = omega (arith, length-append x y) in
    take-map-range_with_len (λ k. filtered_at (x ++ y) (5 * k)) 0 all count inside
    ∙ fifths_stay count x y (omega arith)

-- each fifth filtered sample is one of the filtered samples
pub decimated_place : (x : List ℤ) (k : ℕ) → k < length (decimated x)
    → get_or (decimated x) k (pos 0) ≡ get_or (filtered x) (5 * k) (pos 0)
decimated_place x k inside =
    let count : ℕ = (length x + 4) / 5 in
    let size = length-map-range_with_len (λ n. filtered_at x (5 * n)) 0 count in
    let below : k < count = omega arith in
    get_or-map-range_with_len (λ n. filtered_at x (5 * n)) 0 count k k (pos 0) below (omega arith)
    ∙ sym (get_or-map-range_with_len (filtered_at x) 0 (length x) (5 * k) (5 * k) (pos 0) (omega arith) (omega arith))

pub decimated-none : (x : List ℤ) (sample : ℤ) (left : ℕ) → left + length x ≡ 15 + 5 * ((length x - 15 + 4) / 5)
    → 0 < left
    → decimated_settled (x ++ sample ∷ []) ≡ decimated_settled x ++ []
decimated-none x sample left at some =
    let n : ℕ = (length x - 15 + 4) / 5 in
    let still : (length (x ++ sample ∷ []) - 15 + 4) / 5 ≡ n = omega (arith, length_push x sample) in
    ap (λ k. decimated_first k (x ++ sample ∷ [])) still
    ∙ fifths_stay n x (sample ∷ []) (omega arith)
    ∙ sym (append-nil (decimated_settled x))

pub decimated-more : (x : List ℤ) (sample given : ℤ) → length x ≡ 15 + 5 * ((length x - 15 + 4) / 5)
    → given ≡ sample_of_sum (sum_below (product_of (last_window (x ++ sample ∷ [])) taps) 31)
    → decimated_settled (x ++ sample ∷ []) ≡ decimated_settled x ++ given ∷ []
decimated-more x sample given at is =
    let all : List ℤ = x ++ sample ∷ [] in
    let n : ℕ = (length x - 15 + 4) / 5 in
    let more : (length all - 15 + 4) / 5 ≡ n + 1 = omega (arith, length_push x sample) in
    let size : length all ≡ 5 * n + 16 = omega (arith, length_push x sample) in
    let here : filtered_at all (5 * n) ≡ given = ap sample_of_sum (sym (window_sum 16 15 (5 * n) all refl size))
    ∙ sym is in
    ap (λ k. decimated_first k all) more
    ∙ map-range_with_len_more (λ k. filtered_at all (5 * k)) 0 n n (omega arith)
    ∙ ap (λ l. l ++ filtered_at all (5 * n) ∷ []) (fifths_stay n x (sample ∷ []) (omega arith))
    ∙ ap (λ z. decimated_settled x ++ z ∷ []) here

-- the decimated samples, and those of more samples, begin with what is settled
pub length-decimated_settled : (x : List ℤ) → length (decimated_settled x) ≡ (length x - 15 + 4) / 5
length-decimated_settled x = length-map-range_with_len (λ k. filtered_at x (5 * k)) 0 ((length x - 15 + 4) / 5)

pub length-decimated : (x : List ℤ) → length (decimated x) ≡ (length x + 4) / 5
length-decimated x = length-map-range_with_len (λ k. filtered_at x (5 * k)) 0 ((length x + 4) / 5)

pub decimated_begins : (x y : List ℤ) → (rest : List ℤ) × (decimated (x ++ y) ≡ decimated_settled x ++ rest)
decimated_begins x y =
    let n : ℕ = (length x - 15 + 4) / 5 in
    let all : List ℤ = decimated (x ++ y) in
    (drop n all, sym (take-append-drop n all) ∙ ap (λ l. l ++ drop n all) (decimated_settles x y))

pub decimated_parts : (x : List ℤ) → (rest : List ℤ) × (decimated x ≡ decimated_settled x ++ rest)
decimated_parts x =
    let begins = decimated_begins x [] in
    (begins.0, ap decimated (sym (append-nil x)) ∙ begins.1)
