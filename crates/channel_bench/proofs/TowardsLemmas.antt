-- The frames towards a station, in time: which of them have passed, and which one a heard frame is matched with.
use Rattle.channel_bench.proofs.Common.{◌≡◌, get_or, ℕ, zero, suc, ◌+◌, ◌-◌, ◌<◌, ◌≤◌, ◌&&◌, nat_le, Bool, true}
use Rattle.channel_bench.proofs.Common.{false, List, [], ◌∷◌, ◌++◌, length, drop, cond, Option, Some, None, refl, sym}
use Rattle.channel_bench.proofs.Common.{ap, ◌∙◌, subst, arith, count_by, option_map, position, slice_get, leb-true}
use Rattle.channel_bench.proofs.Common.{leb-false, ltb-true, slice_get-get_or, drop_all, Candidate, SentAt, distance, fits, is_match}
use Rattle.std.specs.Str.{bytes_eq}
use Rattle.std.specs.List.{AllByRecursion as Each, filter}
use Rattle.std.proofs.lemmas.List.Sums.{count_by-le-length, sum_by-cons}
use Rattle.std.proofs.lemmas.Slice.Eq.{bytes_eq-Decides}
use Rattle.std.proofs.lemmas.List.Quantifiers.{position-Some}

slice_get-drop : {A : Type 0} (a n : ℕ) (xs : List A) → slice_get (drop a xs) n ≡ slice_get xs (a + n)
slice_get-drop zero n xs = ap (λ k. slice_get xs k) (omega arith)
slice_get-drop (suc a) n [] = refl
slice_get-drop (suc a) n (x ∷ xs) =
    let e : suc a + n ≡ suc (a + n) = omega arith in
    slice_get-drop a n xs ∙ ap (λ k. slice_get (x ∷ xs) k) (sym e)

abbrev pub octets_at : SentAt → List ℕ
octets_at sent = sent.octets

-- ---- ends that rise

abbrev pub Rising : ℕ → List SentAt → ℕ → Type 0
Rising low [] high = low ≤ high
Rising low (s ∷ towards) high = (low ≤ s.end) × Rising s.end towards high

pub rising_more : (low : ℕ) (towards : List SentAt) (high : ℕ) (s : SentAt) (top : ℕ) → Rising low towards high
    → high ≤ s.end → s.end ≤ top → Rising low (towards ++ s ∷ []) top
rising_more low [] high s top h above below = (omega arith, below)
rising_more low (first ∷ towards) high s top h above below =
    (h.0, rising_more first.end towards high s top h.1 above below)

pub rising_later : (low : ℕ) (towards : List SentAt) (high top : ℕ) → Rising low towards high → high ≤ top
    → Rising low towards top
rising_later low [] high top h below = omega arith
rising_later low (first ∷ towards) high top h below = (h.0, rising_later first.end towards high top h.1 below)

rising_drop : (m low : ℕ) (towards : List SentAt) (high : ℕ) → Rising low towards high → (from : ℕ)
    × Rising from (drop m towards) high
rising_drop zero low towards high h = (low, h)
rising_drop (suc m) low [] high h = (low, h)
rising_drop (suc m) low (s ∷ towards) high h = rising_drop m s.end towards high h.1

-- ---- those that have passed a mark

abbrev pub has_passed : ℕ → SentAt → Bool
has_passed mark sent = nat_le (sent.end + 16) mark

abbrev pub Passed : ℕ → List SentAt → ℕ → Type 0
Passed mark towards k = (s : SentAt) → slice_get towards k ≡ Some s → s.end + 16 ≤ mark

count_cons : (mark : ℕ) (s : SentAt) (towards : List SentAt)
    → count_by (has_passed mark) (s ∷ towards) ≡ cond (has_passed mark s) 1 0 + count_by (has_passed mark) towards
count_cons mark s towards = sum_by-cons (λ x. cond (has_passed mark x) 1 0) s towards

none_passed : (mark low : ℕ) (towards : List SentAt) (high : ℕ) → Rising low towards high → mark < low + 16
    → count_by (has_passed mark) towards ≡ 0
none_passed mark low [] high h later = refl
none_passed mark low (s ∷ towards) high h later =
    count_cons mark s towards ∙ go (has_passed mark s) refl (none_passed mark s.end towards high h.1)
  where
    go : (b : Bool) → has_passed mark s ≡ b → (mark < s.end + 16 → count_by (has_passed mark) towards ≡ 0)
        → cond b 1 0 + count_by (has_passed mark) towards ≡ 0
    go true is rest = let below = leb-true (s.end + 16) mark is in absurd (omega (arith, below, h.0, later))
    go false is rest =
        let above = leb-false (s.end + 16) mark is in
        let none = rest (omega (arith, above)) in
        omega (arith, none)

counted_passed :
    (mark low : ℕ) (towards : List SentAt) (high k : ℕ) → Rising low towards high
    → k < count_by (has_passed mark) towards
    → Passed mark towards k
counted_passed mark low [] high k h below = absurd (omega arith)
counted_passed mark low (s ∷ towards) high k h below =
    go (has_passed mark s) refl (subst (λ n. k < n) (count_cons mark s towards) below)
    (λ n more. counted_passed mark s.end towards high n h.1 more)
  where
    at : (n : ℕ) → s.end + 16 ≤ mark → (n < 1 + count_by (has_passed mark) towards)
        → ((j : ℕ) → j < count_by (has_passed mark) towards → Passed mark towards j) → Passed mark (s ∷ towards) n
    at zero passed less rest = λ x is. let e : s ≡ x = cc in subst (λ (y : SentAt). y.end + 16 ≤ mark) e passed
    at (suc n) passed less rest = λ x is. rest n (omega arith) x is

    go : (b : Bool) → has_passed mark s ≡ b → k < cond b 1 0 + count_by (has_passed mark) towards
        → ((j : ℕ) → j < count_by (has_passed mark) towards → Passed mark towards j) → Passed mark (s ∷ towards) k
    go true is less rest = at k (leb-true (s.end + 16) mark is) less rest
    go false is less rest =
        let above = leb-false (s.end + 16) mark is in
        let none = none_passed mark s.end towards high h.1 (omega (arith, above)) in
        absurd (omega (arith, less, none))

length_dropped : (m : ℕ) (towards : List SentAt) → m ≤ length towards → length (drop m towards) + m ≡ length towards
length_dropped zero towards h = omega arith
length_dropped (suc m) [] h = absurd (omega arith)
length_dropped (suc m) (s ∷ towards) h = let rest = length_dropped m towards (omega arith) in omega (arith, rest)

-- those past the matched ones that are counted
pub passed_counted :
    (mark m : ℕ) (towards : List SentAt) (high k : ℕ) → Rising 0 towards high → m ≤ k
    → k < m + count_by (has_passed mark) (drop m towards) → Passed mark towards k
passed_counted mark m towards high k h from below =
    let d = rising_drop m 0 towards high h in
    let j = k - m in
    let here = counted_passed mark d.0 (drop m towards) high j d.1 (omega arith) in
    let place : m + j ≡ k = omega arith in
    λ s is. here s (slice_get-drop m j towards ∙ ap (slice_get towards) place ∙ is)

pub counted_within :
    (mark m : ℕ) (towards : List SentAt) → m ≤ length towards
    → m + count_by (has_passed mark) (drop m towards) ≤ length towards
counted_within mark m towards within =
    let few = count_by-le-length (has_passed mark) (drop m towards) in
    let size = length_dropped m towards within in
    omega (arith, few, size)

-- past all of them none is counted
pub none_counted : (mark m : ℕ) (towards : List SentAt) → length towards < m
    → m + count_by (has_passed mark) (drop m towards) ≤ m
none_counted mark m towards more =
    let none : drop m towards ≡ [] = drop_all m towards (omega arith) in
    let few = count_by-le-length (has_passed mark) (drop m towards) in
    let size = ap length none in
    omega (arith, few, size)

-- ---- the match of a heard frame

-- a frame that was sent and has its octets, and a true end at most seven samples lower
pub record IsMatchAt (item : Candidate) (matched : ℕ) (towards : List SentAt) (number : ℕ) : Type 0 where
  pub from : matched ≤ number
  pub sent : SentAt
  pub is_there : slice_get towards number ≡ Some sent
  pub octets : sent.octets ≡ item.octets
  pub late : item.end < sent.end + 8

both : (a b : Bool) → (a && b) ≡ true → (a ≡ true) × (b ≡ true)
both true true is = (refl, refl)
both true false is = absurd (cc)
both false b is = absurd (cc)

fits_late : (blocks : Bool) (sent heard : ℕ) → fits blocks sent heard ≡ true → heard < sent + 8
fits_late false sent heard is = let near = ltb-true (distance sent heard) 8 is in omega (arith, near)
fits_late true sent heard is = ltb-true heard (sent + 8) is

pub match_is :
    (blocks : Bool) (item : Candidate) (matched : ℕ) (towards : List SentAt) (number : ℕ)
    → option_map (λ k. matched + k) (position (is_match blocks item) (drop matched towards)) ≡ Some number
    → IsMatchAt item matched towards number
match_is blocks item matched towards number is =
    go (position (is_match blocks item) (drop matched towards)) refl is
  where
    none : SentAt
    none = record { octets = []; end = 0 }

    go : (o : Option ℕ) → position (is_match blocks item) (drop matched towards) ≡ o
        → option_map (λ k. matched + k) o ≡ Some number
        → IsMatchAt item matched towards number
    go None at same = absurd (cc)
    go (Some k) at same =
        let place : matched + k ≡ number = cc in
        let found = position-Some (is_match blocks item) (drop matched towards) k none at in
        let sent = get_or (drop matched towards) k none in
        let there = slice_get-get_or (drop matched towards) k none found.0 in
        let tests = both (bytes_eq sent.octets item.octets) (fits blocks sent.end item.end) found.1 in
        record {
          from = omega arith;
          sent = sent;
          is_there = sym (ap (slice_get towards) place) ∙ sym (slice_get-drop matched k towards) ∙ there;
          octets = (bytes_eq-Decides sent.octets item.octets).0 tests.0;
          late = fits_late blocks sent.end item.end tests.1;
        }

-- an element stands where it stood if more come after
pub still_there : {X : Type 0} (xs ys : List X) (k : ℕ) (x : X) → slice_get xs k ≡ Some x
    → slice_get (xs ++ ys) k ≡ Some x
still_there [] ys k x is = absurd (cc)
still_there (y ∷ xs) ys zero x is = is
still_there (y ∷ xs) ys (suc k) x is = still_there xs ys k x is

-- what passes a test in a list that passed it
pub each_passes : {X : Type 0} (p : X → Bool) (xs : List X) → Each (λ x. p x ≡ true) (filter p xs)
each_passes p [] = tt
each_passes p (x ∷ xs) = go (p x) refl (each_passes p xs)
  where
    go : (b : Bool) → p x ≡ b → Each (λ y. p y ≡ true) (filter p xs)
        → Each (λ y. p y ≡ true) (cond b (x ∷ filter p xs) (filter p xs))
    go true is rest = (is, rest)
    go false is rest = rest
