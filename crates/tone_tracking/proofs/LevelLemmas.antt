-- Samples without their mean, by the last 32 samples before a block and the block.
use Rattle.tone_tracking.proofs.Common.{◌≡◌, ◌≢◌, ℕ, ◌+◌, ◌-◌, ◌*◌, ◌<◌, ◌≤◌, zero, suc, ℤ, pos, ◌+ℤ◌, ◌-ℤ◌, ◌*ℤ◌, List}
use Rattle.tone_tracking.proofs.Common.{length, get_or, set, ap, sym, subst, ◌∙◌, arith, ints, inl, inr, cases_eq, cases_lt, replicate, All, FitsSigned, w16}
use Rattle.tone_tracking.proofs.Common.{get_or-set_same, get_or-set_other, unsigned_abs, sum_below}
use Rattle.std.specs.Int.{int_div_euclid}
use Rattle.offset_slicers.proofs.DecisionLemmas.{sum_below-agree}
unfoldable use Rattle.tone_tracking.specs.BlockLevels.{sum_from}
use Rattle.tone_tracking.specs.BlockLevels.{AreSmallBelow, level_at}
use Rattle.tone_tracking.specs.HeldMean.{IsSumOf, last_samples}
unfoldable use Rattle.tone_tracking.specs.WithoutMean.{sum_around}
use Rattle.tone_tracking.specs.WithoutMean.{without_mean, without_mean_at}
use Rattle.tone_tracking.proofs.MeanLemmas.{sum_first, length-last_samples, length-without_mean, without_mean_begins}
use Rattle.std.proofs.Common.{◌++◌, append_assoc, drop, get_or-append-add, length-append, length-drop}
use Rattle.std.proofs.lemmas.List.{drop-append-le, drop-drop, ext_get_or, get_or-drop, get_or_append_left, length-replicate}
use Rattle.std.proofs.lemmas.List.Elements.{All-from_get_or}
use Rattle.std.proofs.lemmas.List.FromFn.{get_or-map-range_with_len}

-- a sum of small numbers is small
sum_small : (f : ℕ → ℤ) (n : ℕ) → ((j : ℕ) → j < n → unsigned_abs (f j) ≤ 32768)
    → unsigned_abs (sum_below f n) ≤ 32768 * n
unfolding sum_below
sum_small f zero each = omega (arith, ints)
sum_small f (suc n) each =
    let before = sum_small f n (λ j below. each j (omega arith)) in
    let one = each n (omega arith) in
    omega (arith, ints, before, one)

pub sum_from_small : (samples : List ℤ) (place : ℕ) → AreSmallBelow (place + 32) samples
    → unsigned_abs (sum_from samples place) ≤ 1048576
unfolding sum_from
sum_from_small samples place small =
    sum_small (λ j. get_or samples (place + j) (pos 0)) 32 (λ j below. small (place + j) (omega arith))

-- with a sample more
pub small_more : (samples : List ℤ) (count next : ℕ) → next ≡ count + 1 → AreSmallBelow count samples
    → FitsSigned w16 (get_or samples count (pos 0)) → AreSmallBelow next samples
small_more samples count next is small fits k below = elim (cases_eq k count) [
  | inl e ↦ (let here : get_or samples k (pos 0) ≡ get_or samples count (pos 0) = ap (λ n. get_or samples n (pos 0)) e in
      let one : unsigned_abs (get_or samples count (pos 0)) ≤ 32768 = omega (arith, ints) in
      subst (λ z. unsigned_abs z ≤ 32768) (sym here) one)
  | inr ne ↦ small k (omega arith)
]

-- the sum a place on
pub sum_from_next : (samples : List ℤ) (place : ℕ) → sum_from samples (place + 1)
    ≡ (sum_from samples place -ℤ get_or samples place (pos 0)) +ℤ get_or samples (place + 32) (pos 0)
unfolding sum_from sum_below
sum_from_next samples place =
    let f : ℕ → ℤ = λ j. get_or samples (place + j) (pos 0) in
    let rest : sum_below (λ j. get_or samples (place + 1 + j) (pos 0)) 32 ≡ sum_below (λ j. f (suc j)) 32
    = sum_below-agree (λ j. get_or samples (place + 1 + j) (pos 0)) (λ j. f (suc j)) 32 (λ j below.
    ap (λ k. get_or samples k (pos 0)) (let e : place + 1 + j ≡ place + suc j = omega arith in e)) in
    let here : f 0 ≡ get_or samples place (pos 0) = ap (λ k. get_or samples k (pos 0)) (let e : place + 0 ≡ place = omega arith in e) in
    let first = sum_first f 32 in
    omega (arith, ints, rest, here, first)

-- the sum a place on, as it is made of numbers that are passed
pub sum_slid : (samples : List ℤ) (place : ℕ) (sum first more result kept : ℤ) → sum ≡ sum_from samples place
    → first ≡ get_or samples place (pos 0) → more ≡ get_or samples (place + 32) (pos 0)
    → result ≡ (sum -ℤ first) +ℤ more → kept ≡ result → kept ≡ sum_from samples (place + 1)
sum_slid samples place sum first more result kept sum_is first_is more_is is same =
    same ∙ is ∙ (λ i. (sum_is i -ℤ first_is i) +ℤ more_is i) ∙ sym (sum_from_next samples place)

-- a level, as it is made of numbers that are passed
pub level_made : (samples : List ℤ) (place : ℕ) (sum sample result kept : ℤ) → sum ≡ sum_from samples (place + 1)
    → sample ≡ get_or samples (place + 17) (pos 0) → result ≡ pos 4 *ℤ sample -ℤ int_div_euclid sum (pos 8)
    → kept ≡ result → kept ≡ level_at samples place
level_made samples place sum sample result kept sum_is sample_is is same =
    same ∙ is ∙ (λ i. pos 4 *ℤ sample_is i -ℤ int_div_euclid (sum_is i) (pos 8))

module _ (samples levels : List ℤ) (from place first : ℕ) (level : ℤ) (past : from ≤ place)
    (room : first + (place - from) < length levels) where
  abbrev at : ℕ
  at = first + (place - from)

  pub written_same : (before : List ℤ)
      → ((i : ℕ) (d : ℤ) → i < first → get_or levels i d ≡ get_or before i d)
      → (i : ℕ) (d : ℤ) → i < first → get_or (set levels at level) i d ≡ get_or before i d
  written_same before same i d below =
      let ne : i ≢ at = omega arith in get_or-set_other levels at i level d ne ∙ same i d below

  pub written_made : level ≡ level_at samples place
      → ((i : ℕ) (d : ℤ) → from + i < place → get_or levels (first + i) d ≡ level_at samples (from + i))
      → (i : ℕ) (d : ℤ) → from + i < place + 1 → get_or (set levels at level) (first + i) d ≡ level_at samples (from + i)
  written_made is made i d below = elim (cases_eq (from + i) place) [
    | inl e ↦ (let here : first + i ≡ at = omega arith in
        ap (λ k. get_or (set levels at level) k d) here ∙ get_or-set_same levels at level d room ∙ is
        ∙ ap (level_at samples) (sym e))
    | inr ne ↦ (let other : first + i ≢ at = omega arith in
        get_or-set_other levels at (first + i) level d other ∙ made i d (omega arith))
  ]

-- ---- a block after the last 32 samples

module _ (recent block samples : List ℤ) (whole : length recent ≡ 32) (are : samples ≡ recent ++ block) where
  first_are : (k : ℕ) → k < 32 → get_or samples k (pos 0) ≡ get_or recent k (pos 0)
  first_are k below = ap (λ l. get_or l k (pos 0)) are ∙ get_or_append_left recent block (pos 0) k (omega arith)

  pub first_small : All (λ sample. unsigned_abs sample ≤ 32768) recent → AreSmallBelow 32 samples
  first_small small k below = subst (λ z. unsigned_abs z ≤ 32768) (sym (first_are k below)) (small k (pos 0) (omega arith))

  pub first_sum : (sum : ℤ) → IsSumOf recent sum → sum ≡ sum_from samples 0
  unfolding sum_from
  first_sum sum h = h.sum_is ∙ sum_below-agree (λ j. get_or recent j (pos 0)) (λ j. get_or samples (0 + j) (pos 0)) 32
      (λ j below. sym (first_are j below) ∙ ap (λ k. get_or samples k (pos 0)) (let e : j ≡ 0 + j = omega arith in e))

-- the last 32 of samples and their sum
pub last_sum : (samples last : List ℤ) (sum : ℤ) → last ≡ drop (length samples - 32) samples → 32 ≤ length samples
    → AreSmallBelow (length samples) samples → sum ≡ sum_from samples (length samples - 32) → IsSumOf last sum
unfolding sum_from
last_sum samples last sum is enough small sum_is =
    let n : ℕ = length samples - 32 in
    let size = length-drop n samples in
    subst (λ l. IsSumOf l sum) (sym is) (record {
      small = All-from_get_or (λ z. unsigned_abs z ≤ 32768) (drop n samples) (pos 0) (λ k below.
          subst (λ z. unsigned_abs z ≤ 32768) (sym (get_or-drop n samples k (pos 0))) (small (n + k) (omega arith)));
      sum_is = sum_is ∙ sum_below-agree (λ j. get_or samples (n + j) (pos 0)) (λ j. get_or (drop n samples) j (pos 0)) 32
          (λ j below. sym (get_or-drop n samples j (pos 0)));
    })

module _ (x block recent samples : List ℤ) (recent_is : recent ≡ last_samples x) (are : samples ≡ recent ++ block) where
  abbrev all : List ℤ
  all = x ++ block

  abbrev zeros : ℕ → List ℤ
  zeros n = replicate n (pos 0)

  -- the samples are the last ones of all, with zeros before the first
  samples_are : samples ≡ drop (length x) (zeros 32 ++ all)
  samples_are =
      let inside : length x ≤ length (zeros 32 ++ x) = omega (arith, length-append (zeros 32) x) in
      are ∙ ap (λ l. l ++ block) recent_is ∙ sym (drop-append-le (length x) (zeros 32 ++ x) block inside)
      ∙ ap (drop (length x)) (append_assoc (zeros 32) x block)

  -- and the last 32 of them are the last of all
  pub last_are : (last : List ℤ) → last ≡ drop (length samples - 32) samples → last ≡ last_samples all
  last_are last is =
      let size = length-append recent block in
      let kept : length recent ≡ 32 = ap length recent_is ∙ length-last_samples x in
      let count : length samples ≡ length (recent ++ block) = ap length are in
      let at : length x + (length samples - 32) ≡ length all = let s = length-append x block in omega arith in
      is ∙ ap (drop (length samples - 32)) samples_are ∙ drop-drop (length samples - 32) (length x) (zeros 32 ++ all)
      ∙ ap (λ n. drop n (zeros 32 ++ all)) at

  sample_is : (k n : ℕ) → length x + k ≡ n → get_or samples k (pos 0) ≡ get_or (zeros 32 ++ all) n (pos 0)
  sample_is k n at = ap (λ l. get_or l k (pos 0)) samples_are ∙ get_or-drop (length x) (zeros 32 ++ all) k (pos 0)
      ∙ ap (λ m. get_or (zeros 32 ++ all) m (pos 0)) at

  -- what they give at a place is a sample without its mean
  level_is : (k n : ℕ) → length x + k ≡ n + 15 → level_at samples k ≡ without_mean_at all n
  unfolding sum_from sum_around
  level_is k n at =
      let some = length-replicate 32 (pos 0) in
      let half = length-replicate 16 (pos 0) in
      let there : length x + (k + 17) ≡ length (zeros 32) + n = omega arith in
      let sample = sample_is (k + 17) (length (zeros 32) + n) there ∙ get_or-append-add (zeros 32) all n (pos 0) in
      let sum = sum_below-agree (λ j. get_or samples (k + 1 + j) (pos 0)) (λ j. get_or (zeros 16 ++ all) (n + j) (pos 0)) 32
      (λ j below.
      let here : length x + (k + 1 + j) ≡ length (zeros 16) + (n + j) = omega arith in
      sample_is (k + 1 + j) (length (zeros 16) + (n + j)) here
      ∙ ap (λ l. get_or l (length (zeros 16) + (n + j)) (pos 0)) (append_assoc (zeros 16) (zeros 16) all)
      ∙ get_or-append-add (zeros 16) (zeros 16 ++ all) (n + j) (pos 0)) in
      λ i. pos 4 *ℤ sample i -ℤ int_div_euclid (sum i) (pos 8)

  -- so levels with these after them have all that the block settles
  pub block_settled : (levels longer : List ℤ) (left silent : ℕ) → left ≡ 15 - length x
      → length block - silent ≡ length block - left → silent ≤ length block
      → length longer ≡ length levels + (length block - silent)
      → ((i : ℕ) (d : ℤ) → i < length levels → get_or longer i d ≡ get_or levels i d)
      → ((i : ℕ) (d : ℤ) → length levels + i < length longer → get_or longer (length levels + i) d ≡ level_at samples (silent + i))
      → (settled : List ℤ) × (without_mean all ≡ without_mean x ++ settled) × (longer ≡ levels ++ settled)
  block_settled levels longer left silent left_is as_many within long same made =
      let begins = without_mean_begins x block in
      let rest : List ℤ = begins.0 in
      let size = length-append x block in
      let before = length-without_mean x in
      let after = length-without_mean all in
      let sum : length (without_mean all) ≡ length (without_mean x) + length rest = ap length begins.1 ∙ length-append (without_mean x) rest in
      let both : length (levels ++ rest) ≡ length levels + length rest = length-append levels rest in (
        rest,
        begins.1,
        ext_get_or (pos 0) longer (levels ++ rest) (omega arith) (λ i inside. elim (cases_lt i (length levels)) [
          | inl low ↦ same i (pos 0) low ∙ sym (get_or_append_left levels rest (pos 0) i low)
          | inr high ↦ (let j : ℕ = i - length levels in
              let n : ℕ = length (without_mean x) + j in
              let here : i ≡ length levels + j = omega arith in
              let at : length x + (silent + j) ≡ n + 15 = omega arith in
              ap (λ k. get_or longer k (pos 0)) here ∙ made j (pos 0) (omega arith) ∙ level_is (silent + j) n at
              ∙ sym (get_or-map-range_with_len (without_mean_at all) 0 (length all - 15) n n (pos 0) (omega arith) (omega arith))
              ∙ ap (λ l. get_or l n (pos 0)) begins.1 ∙ get_or-append-add (without_mean x) rest j (pos 0)
              ∙ sym (get_or-append-add levels rest j (pos 0)) ∙ ap (λ k. get_or (levels ++ rest) k (pos 0)) (sym here))
        ]),
      )
