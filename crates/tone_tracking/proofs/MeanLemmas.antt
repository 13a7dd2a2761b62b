-- Samples without their mean: those that the samples settle, and those with a sample more.
use Rattle.tone_tracking.proofs.Common.{◌≡◌, ℕ, ◌+◌, ◌-◌, ◌%◌, ◌<◌, ◌≤◌, ℤ, pos, ◌-ℤ◌, ◌*ℤ◌, List, [], ◌∷◌, length}
use Rattle.tone_tracking.proofs.Common.{get_or, set, replicate, refl, ap, sym, ◌∙◌, arith, sum_below, inl, inr, cases_lt}
use Rattle.std.proofs.Common.{◌++◌, append_assoc, append-nil, drop, take, length-append, length-drop, length-take}
use Rattle.std.proofs.Common.{get_or-append-add}
use Rattle.std.specs.Int.{int_div_euclid}
use Rattle.std.proofs.lemmas.List.{drop-append-le, drop-drop, drop_all, drop-set-lt, get_or-drop, get_or-take, get_or_append_left, length-replicate, length_push, length-set}
use Rattle.std.proofs.lemmas.List.{take_all, take_more_set}
use Rattle.std.proofs.lemmas.List.FromFn.{fill_by_all, get_or-map-range_with_len, length-map-range_with_len}
use Rattle.std.proofs.lemmas.List.FromFn.{map-range_with_len_more}
use Rattle.offset_slicers.proofs.DecisionLemmas.{sum_below-agree}
unfoldable use Rattle.tone_tracking.specs.WithoutMean.{sum_around}
use Rattle.tone_tracking.specs.WithoutMean.{without_mean, without_mean_at, without_mean_first}
use Rattle.tone_tracking.specs.HeldMean.{IsSumOf, from_oldest, last_samples}
use Rattle.std.proofs.lemmas.List.Elements.{All-append, All-cons, All-drop, All-nil, All-replicate}
use Rattle.tone_tracking.proofs.Common.{All, unsigned_abs, ints, zero, suc, ◌+ℤ◌, ◌*◌}

abbrev zeros : ℕ → List ℤ
zeros n = replicate n (pos 0)

abbrev pub sum_of_first : List ℤ → ℕ → ℤ
sum_of_first samples count = sum_below (λ j. get_or samples j (pos 0)) count

-- ---- what is kept

pub length-last_samples : (x : List ℤ) → length (last_samples x) ≡ 32
length-last_samples x = omega (
  arith,
  length-drop (length x) (zeros 32 ++ x),
  length-append (zeros 32) x,
  length-replicate 32 (pos 0),
)

-- with one sample more
pub last_samples-push : (x : List ℤ) (sample : ℤ) → last_samples (x ++ sample ∷ [])
    ≡ drop 1 (last_samples x) ++ sample ∷ []
last_samples-push x sample =
    let inside : length x ≤ length (zeros 32 ++ x) = omega (arith, length-append (zeros 32) x) in
    let some : 1 ≤ length (last_samples x) = omega (arith, length-last_samples x) in
    ap (λ n. drop n (zeros 32 ++ (x ++ sample ∷ []))) (length_push x sample)
    ∙ ap (λ l. drop (length x + 1) l) (sym (append_assoc (zeros 32) x (sample ∷ [])))
    ∙ sym (drop-drop 1 (length x) ((zeros 32 ++ x) ++ sample ∷ []))
    ∙ ap (drop 1) (drop-append-le (length x) (zeros 32 ++ x) (sample ∷ []) inside)
    ∙ drop-append-le 1 (last_samples x) (sample ∷ []) some

-- ---- the ring

pub length-from_oldest : (ring : List ℤ) (oldest : ℕ) → length ring ≡ 32 → oldest < 32
    → length (from_oldest oldest ring) ≡ 32
length-from_oldest ring oldest whole inside = omega (
  arith,
  length-append (drop oldest ring) (take oldest ring),
  length-drop oldest ring,
  length-take oldest ring,
)

-- a sample of a ring that is read from its oldest one
pub ring_at : (ring : List ℤ) (oldest i : ℕ) → length ring ≡ 32 → oldest < 32 → i < 32
    → get_or ring ((oldest + i) % 32) (pos 0) ≡ get_or (from_oldest oldest ring) i (pos 0)
ring_at ring oldest i whole inside below =
    let late = length-drop oldest ring in
    elim (cases_lt (oldest + i) 32) [
      | inl straight ↦
          let same : (oldest + i) % 32 ≡ oldest + i = omega arith in
          ap (λ k. get_or ring k (pos 0)) same ∙ sym (get_or-drop oldest ring i (pos 0))
          ∙ sym (get_or_append_left (drop oldest ring) (take oldest ring) (pos 0) i (omega arith))
      | inr round ↦
          let k : ℕ = oldest + i - 32 in
          let same : (oldest + i) % 32 ≡ k = omega arith in
          let at : i ≡ length (drop oldest ring) + k = omega arith in
          ap (λ j. get_or ring j (pos 0)) same ∙ sym (get_or-take oldest ring k (pos 0) (omega arith))
          ∙ sym (get_or-append-add (drop oldest ring) (take oldest ring) k (pos 0))
          ∙ ap (λ j. get_or (from_oldest oldest ring) j (pos 0)) (sym at)
    ]

-- its oldest one
pub ring_first : (ring : List ℤ) (oldest : ℕ) → length ring ≡ 32 → oldest < 32
    → get_or ring oldest (pos 0) ≡ get_or (from_oldest oldest ring) 0 (pos 0)
ring_first ring oldest whole inside =
    let same : oldest ≡ (oldest + 0) % 32 = omega arith in
    ap (λ k. get_or ring k (pos 0)) same ∙ ring_at ring oldest 0 whole inside (omega arith)

-- a ring that is read from its end is read from its beginning
from_end : (ring : List ℤ) → length ring ≡ 32 → from_oldest 32 ring ≡ from_oldest 0 ring
from_end ring whole =
    let none : drop 32 ring ≡ [] = drop_all 32 ring (omega arith) in
    let all : take 32 ring ≡ ring = take_all 32 ring (omega arith) in
    (λ i. none i ++ all i) ∙ sym (append-nil ring)

-- a ring in which a new sample has taken the place of the oldest one
pub ring_next : (ring : List ℤ) (oldest : ℕ) (sample : ℤ) → length ring ≡ 32 → oldest < 32
    → from_oldest ((oldest + 1) % 32) (set ring oldest sample) ≡ drop 1 (from_oldest oldest ring) ++ sample ∷ []
ring_next ring oldest sample whole inside =
    let now : List ℤ = set ring oldest sample in
    let size : length now ≡ 32 = length-set ring oldest sample ∙ whole in
    let some : 1 ≤ length (drop oldest ring) = omega (arith, length-drop oldest ring) in
    let turned : from_oldest ((oldest + 1) % 32) now ≡ from_oldest (oldest + 1) now = elim (cases_lt (oldest + 1) 32) [
      | inl straight ↦
          let same : (oldest + 1) % 32 ≡ oldest + 1 = omega arith in
          ap (λ k. from_oldest k now) same
      | inr round ↦
          let first : (oldest + 1) % 32 ≡ 0 = omega arith in
          let last : oldest + 1 ≡ 32 = omega arith in
          ap (λ k. from_oldest k now) first ∙ sym (from_end now size) ∙ ap (λ k. from_oldest k now) (sym last)
    ] in
    let late = drop-set-lt (oldest + 1) ring oldest sample (omega arith) in
    let early = take_more_set ring oldest sample (omega arith) in
    turned ∙ (λ i. late i ++ early i)
    ∙ sym (append_assoc (drop (oldest + 1) ring) (take oldest ring) (sample ∷ []))
    ∙ ap (λ l. (l ++ take oldest ring) ++ sample ∷ []) (sym (drop-drop 1 oldest ring))
    ∙ ap (λ l. l ++ sample ∷ []) (sym (drop-append-le 1 (drop oldest ring) (take oldest ring) some))

-- ---- their sum

-- a sum with its first number apart
pub sum_first : (f : ℕ → ℤ) (n : ℕ) → sum_below f (suc n) ≡ f 0 +ℤ sum_below (λ j. f (suc j)) n
unfolding sum_below
sum_first f zero = omega (arith, ints)
sum_first f (suc n) = omega (arith, ints, sum_first f n)

-- the sum of the last 32 with one more and the first one less
slid_sum : (xs : List ℤ) (sample : ℤ) → length xs ≡ 32 → sum_of_first (drop 1 xs ++ sample ∷ []) 32
    ≡ (sum_of_first xs 32 -ℤ get_or xs 0 (pos 0)) +ℤ sample
unfolding sum_below
slid_sum xs sample whole =
    let rest : length (drop 1 xs) ≡ 31 = omega (arith, length-drop 1 xs) in
    let front : sum_of_first (drop 1 xs ++ sample ∷ []) 31 ≡ sum_below (λ j. get_or xs (suc j) (pos 0)) 31
    = sum_below-agree (λ j. get_or (drop 1 xs ++ sample ∷ []) j (pos 0)) (λ j. get_or xs (suc j) (pos 0)) 31
    (λ j below. get_or_append_left (drop 1 xs) (sample ∷ []) (pos 0) j (omega arith) ∙ get_or-drop 1 xs j (pos 0)
    ∙ ap (λ k. get_or xs k (pos 0)) (let e : 1 + j ≡ suc j = omega arith in e)) in
    let last : get_or (drop 1 xs ++ sample ∷ []) 31 (pos 0) ≡ sample
    = ap (λ k. get_or (drop 1 xs ++ sample ∷ []) k (pos 0)) (let e : 31 ≡ length (drop 1 xs) + 0 = omega arith in e)
    ∙ get_or-append-add (drop 1 xs) (sample ∷ []) 0 (pos 0) in
    let before = sum_first (λ j. get_or xs j (pos 0)) 31 in
    omega (arith, ints, front, last, before)

-- none of the sums is large
sum_small : (xs : List ℤ) → All (λ sample. unsigned_abs sample ≤ 32768) xs → (n : ℕ) → n ≤ length xs
    → unsigned_abs (sum_of_first xs n) ≤ 32768 * n
unfolding sum_below
sum_small xs small zero le = omega (arith, ints)
sum_small xs small (suc n) le =
    let before = sum_small xs small n (omega arith) in
    let one = small n (pos 0) (omega arith) in
    omega (arith, ints, before, one)

module _ (xs : List ℤ) (sum : ℤ) (whole : length xs ≡ 32) (h : IsSumOf xs sum) where
  pub held_sum_small : unsigned_abs sum ≤ 1048576
  held_sum_small =
      let most = sum_small xs h.small 32 (omega arith) in
      let is = h.sum_is in
      omega (arith, ints)

  pub held_sum_slid : (sample more : ℤ) → unsigned_abs sample ≤ 32768
      → more ≡ (sum -ℤ get_or xs 0 (pos 0)) +ℤ sample → IsSumOf (drop 1 xs ++ sample ∷ []) more
  held_sum_slid sample more small is =
      let P : ℤ → Type 0 = λ z. unsigned_abs z ≤ 32768 in
      record {
        small = All-append P (drop 1 xs) (sample ∷ []) (All-drop P 1 xs h.small) (All-cons P sample [] small (All-nil P));
        sum_is = is ∙ ap (λ z. (z -ℤ get_or xs 0 (pos 0)) +ℤ sample) h.sum_is ∙ sym (slid_sum xs sample whole);
      }

pub no_sum : IsSumOf (replicate 32 (pos 0)) (pos 0)
unfolding sum_below
no_sum = record {
  small = All-replicate (λ z. unsigned_abs z ≤ 32768) 32 (pos 0) (omega arith);
  sum_is = refl;
}

-- a place of what is kept
kept_place : (u : List ℤ) (n i : ℕ) → length u ≡ n + 16 → get_or (last_samples u) i (pos 0)
    ≡ get_or (zeros 16 ++ u) (n + i) (pos 0)
kept_place u n i size =
    let at : length u + i ≡ length (zeros 16) + (n + i) = omega (arith, length-replicate 16 (pos 0)) in
    get_or-drop (length u) (zeros 32 ++ u) i (pos 0)
    ∙ ap (λ l. get_or l (length u + i) (pos 0)) (append_assoc (zeros 16) (zeros 16) u)
    ∙ ap (λ k. get_or (zeros 16 ++ (zeros 16 ++ u)) k (pos 0)) at
    ∙ get_or-append-add (zeros 16) (zeros 16 ++ u) (n + i) (pos 0)

kept_sum : (u : List ℤ) (n : ℕ) → length u ≡ n + 16
    → sum_below (λ j. get_or (last_samples u) j (pos 0)) 32 ≡ sum_around u n
unfolding sum_around
kept_sum u n size = sum_below-agree (λ j. get_or (last_samples u) j (pos 0)) (λ j. get_or (zeros 16 ++ u) (n + j) (pos 0))
    32 (λ i below. kept_place u n i size)

kept_middle : (u : List ℤ) (n : ℕ) → length u ≡ n + 16 → get_or (last_samples u) 16 (pos 0) ≡ get_or u n (pos 0)
kept_middle u n size =
    let at : n + 16 ≡ length (zeros 16) + n = omega (arith, length-replicate 16 (pos 0)) in
    kept_place u n 16 size ∙ ap (λ k. get_or (zeros 16 ++ u) k (pos 0)) at ∙ get_or-append-add (zeros 16) u n (pos 0)

-- ---- more samples

-- more samples do not change what is fifteen samples before the end
at_stays : (x y : List ℤ) (n : ℕ) → n + 16 ≤ length x → without_mean_at (x ++ y) n ≡ without_mean_at x n
unfolding sum_around
at_stays x y n inside =
    let front = length-append (zeros 16) x in
    let zero = length-replicate 16 (pos 0) in
    let sum = sum_below-agree (λ j. get_or (zeros 16 ++ (x ++ y)) (n + j) (pos 0))
    (λ j. get_or (zeros 16 ++ x) (n + j) (pos 0)) 32
    (λ j below. ap (λ l. get_or l (n + j) (pos 0)) (sym (append_assoc (zeros 16) x y))
    ∙ get_or_append_left (zeros 16 ++ x) y (pos 0) (n + j) (omega arith)) in
    let sample = get_or_append_left x y (pos 0) n (omega arith) in
    λ i. pos 4 *ℤ sample i -ℤ int_div_euclid (sum i) (pos 8)

first_stays : (count : ℕ) (x y : List ℤ) → count ≤ length x - 15
    → without_mean_first count (x ++ y) ≡ without_mean_first count x
first_stays count x y few =
    fill_by_all (without_mean_at x) (without_mean_first count (x ++ y)) count (pos 0)
    (length-map-range_with_len (without_mean_at (x ++ y)) 0 count)
    (λ n below. get_or-map-range_with_len (without_mean_at (x ++ y)) 0 count n n (pos 0) below (omega arith)
    ∙ at_stays x y n (omega arith))

pub length-without_mean : (x : List ℤ) → length (without_mean x) ≡ length x - 15
length-without_mean x = length-map-range_with_len (without_mean_at x) 0 (length x - 15)

pub without_mean-none : (x : List ℤ) (sample : ℤ) → length x < 15
    → without_mean (x ++ sample ∷ []) ≡ without_mean x ++ []
without_mean-none x sample few =
    let none : length x - 15 ≡ 0 = omega arith in
    let still : length (x ++ sample ∷ []) - 15 ≡ 0 = omega (arith, length_push x sample) in
    ap (λ n. without_mean_first n (x ++ sample ∷ [])) still
    ∙ ap (λ n. without_mean_first n x) (sym none)
    ∙ sym (append-nil (without_mean x))

pub without_mean-more : (x : List ℤ) (sample given : ℤ) → 15 ≤ length x
    → given ≡ pos 4 *ℤ get_or (last_samples (x ++ sample ∷ [])) 16 (pos 0)
    -ℤ int_div_euclid (sum_below (λ j. get_or (last_samples (x ++ sample ∷ [])) j (pos 0)) 32) (pos 8)
    → without_mean (x ++ sample ∷ []) ≡ without_mean x ++ given ∷ []
without_mean-more x sample given enough is =
    let all : List ℤ = x ++ sample ∷ [] in
    let n : ℕ = length x - 15 in
    let more : length all - 15 ≡ n + 1 = omega (arith, length_push x sample) in
    let size : length all ≡ n + 16 = omega (arith, length_push x sample) in
    let middle = kept_middle all n size in
    let sum = kept_sum all n size in
    let here : without_mean_at all n ≡ given
    = sym (is ∙ (λ i. pos 4 *ℤ middle i -ℤ int_div_euclid (sum i) (pos 8))) in
    ap (λ k. without_mean_first k all) more
    ∙ map-range_with_len_more (without_mean_at all) 0 n n (omega arith)
    ∙ ap (λ l. l ++ without_mean_at all n ∷ []) (first_stays n x (sample ∷ []) (omega arith))
    ∙ ap (λ z. without_mean x ++ z ∷ []) here

-- So samples without their mean begin those of more samples, a sample at a time.
pub without_mean_begins : (x y : List ℤ) → (rest : List ℤ) × (without_mean (x ++ y) ≡ without_mean x ++ rest)
without_mean_begins x [] = ([], ap without_mean (append-nil x) ∙ sym (append-nil (without_mean x)))
without_mean_begins x (sample ∷ y) =
    let whole : (x ++ sample ∷ []) ++ y ≡ x ++ sample ∷ y = append_assoc x (sample ∷ []) y in
    let later = without_mean_begins (x ++ sample ∷ []) y in
    let first = one_more x sample in (
      first.0 ++ later.0,
      sym (ap without_mean whole) ∙ later.1 ∙ ap (λ l. l ++ later.0) first.1
          ∙ append_assoc (without_mean x) first.0 later.0,
    )
  where
    one_more : (x : List ℤ) (sample : ℤ) → (rest : List ℤ) × (without_mean (x ++ sample ∷ []) ≡ without_mean x ++ rest)
    one_more x sample = elim (cases_lt (length x) 15) [
      | inl few ↦ ([], without_mean-none x sample few)
      | inr enough ↦ (_ ∷ [], without_mean-more x sample _ enough refl)
    ]
