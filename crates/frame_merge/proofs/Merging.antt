-- What merging leaves out, along a list in order, and which part of it ends below a position.
use Rattle.frame_merge.proofs.Common.{◌≡◌, ℕ, ◌<◌, ◌≤◌, List, [], ◌∷◌, ◌++◌, true, false, cond, refl, ap, sym, ◌∙◌}
use Rattle.frame_merge.proofs.Common.{arith, inl, inr, ◌&&◌, nat_lt, nat_le, if◌then◌else◌, All, list_any}
use Rattle.frame_merge.proofs.Common.{IsNonDecreasingBy, append_snoc, cases_lt, lt-ltb, le-ltb, le-leb, lt-leb}
use Rattle.frame_merge.proofs.Common.{append-nil, All-cons, All-head, All-tail, All-nil, All-weaker, Candidate}
use Rattle.frame_merge.proofs.Common.{standing, place, repeats, merged_after, below, between}
use Rattle.std.proofs.Common.{◌*◌}
use Rattle.frame_merge.proofs.Ordering.{place_here, place_following, rising_tail, rising_head, rising_cons}

-- merging goes along a list: what comes later is compared with all that came before
pub merged_after-append : (earlier xs ys : List Candidate)
    → merged_after earlier (xs ++ ys) ≡ merged_after earlier xs ++ merged_after (earlier ++ xs) ys
merged_after-append earlier [] ys = ap (λ e. merged_after e ys) (sym (append-nil earlier))
merged_after-append earlier (x ∷ xs) ys =
    let step : merged_after (earlier ++ x ∷ []) (xs ++ ys) ≡ merged_after (earlier ++ x ∷ []) xs
    ++ merged_after (earlier ++ x ∷ xs) ys
    = merged_after-append (earlier ++ x ∷ []) xs ys ∙ ap (λ e. merged_after (earlier ++ x ∷ []) xs ++ merged_after e ys)
    (append_snoc earlier x xs) in
    elim (list_any (repeats x) earlier)
    as (λ t. (if t then merged_after (earlier ++ x ∷ []) (xs ++ ys)
    else x ∷ merged_after (earlier ++ x ∷ []) (xs ++ ys))
    ≡ (if t then merged_after (earlier ++ x ∷ []) xs else x ∷ merged_after (earlier ++ x ∷ []) xs)
    ++ merged_after (earlier ++ x ∷ xs) ys)
    [ true ↦ step | false ↦ ap (λ t. x ∷ t) step ]

-- what is true of each candidate is true of each that remains
pub All-merged : (P : Candidate → Type 0) (earlier xs : List Candidate) → All P xs → All P (merged_after earlier xs)
All-merged P earlier [] h = All-nil P
All-merged P earlier (x ∷ xs) h =
    let rest = All-merged P (earlier ++ x ∷ []) xs (All-tail P x xs h) in
    elim (list_any (repeats x) earlier)
    as (λ t. All P (if t then merged_after (earlier ++ x ∷ []) xs else x ∷ merged_after (earlier ++ x ∷ []) xs))
    [ true ↦ rest | false ↦ All-cons P x _ (All-head P x xs h) rest ]

-- what remains of a list in order is in order
pub merged-rising : (n : Candidate → ℕ) (earlier xs : List Candidate) → IsNonDecreasingBy n xs
    → IsNonDecreasingBy n (merged_after earlier xs)
merged-rising n earlier [] h = h
merged-rising n earlier (x ∷ xs) h =
    let rest = merged-rising n (earlier ++ x ∷ []) xs (rising_tail n x xs h) in
    elim (list_any (repeats x) earlier)
    as (λ t. IsNonDecreasingBy n (if t then merged_after (earlier ++ x ∷ []) xs
    else x ∷ merged_after (earlier ++ x ∷ []) xs)) [
      | true ↦ rest
      | false ↦ rising_cons n x _ (All-merged (λ y. n x ≤ n y) (earlier ++ x ∷ []) xs
          (rising_head n x xs h)) rest
    ]

-- nothing ends below a position that no candidate ends below
pub below_none : (position : ℕ) (xs : List Candidate) → All (λ y. position ≤ y.end) xs → below position xs ≡ []
below_none position [] h = refl
below_none position (x ∷ xs) h =
    ap (λ t. cond t (x ∷ below position xs) (below position xs))
    (le-ltb x.end position (All-head (λ y. position ≤ y.end) x xs h))
    ∙ below_none position xs (All-tail (λ y. position ≤ y.end) x xs h)

-- if all end at or after `from`, the part up to `to` is the part below `to`
pub between_all : (from to : ℕ) (xs : List Candidate) → All (λ y. from ≤ y.end) xs → between from to xs ≡ below to xs
between_all from to [] h = refl
between_all from to (x ∷ xs) h =
    ap (λ t. cond (t && nat_lt x.end to) (x ∷ between from to xs) (between from to xs))
    (le-leb from x.end (All-head (λ y. from ≤ y.end) x xs h))
    ∙ ap (λ t. cond (nat_lt x.end to) (x ∷ t) t) (between_all from to xs (All-tail (λ y. from ≤ y.end) x xs h))

-- the part below `from` and then the part from there to `to` are the part below `to`
pub below_between : (from to : ℕ) (xs : List Candidate) → from ≤ to → IsNonDecreasingBy (λ y. y.end) xs
    → below from xs ++ between from to xs ≡ below to xs
below_between from to [] le h = refl
below_between from to (x ∷ xs) le h =
    elim (cases_lt x.end from) [
      | inl lt ↦
          let early : nat_lt x.end from ≡ true = lt-ltb x.end from lt in
          let not_yet : nat_le from x.end ≡ false = lt-leb from x.end lt in
          let soon : nat_lt x.end to ≡ true = lt-ltb x.end to (omega arith) in
          rw (early, not_yet, soon) (ap (λ t. x ∷ t) (below_between from to xs le (rising_tail (λ y. y.end) x xs h)))
      | inr ge ↦
          let late : All (λ y. from ≤ y.end) (x ∷ xs) = All-cons (λ y. from ≤ y.end) x xs ge
          (All-weaker (λ y. x.end ≤ y.end) (λ y. from ≤ y.end) (λ y k. omega arith) xs
          (rising_head (λ y. y.end) x xs h)) in
          ap (λ t. t ++ between from to (x ∷ xs)) (below_none from (x ∷ xs) late) ∙ between_all from to (x ∷ xs) late
    ]

-- a candidate that is put at or after a position changes nothing of the part below it
pub below_place : (position : ℕ) (item : Candidate) (earlier xs : List Candidate)
    → position ≤ item.end
    → IsNonDecreasingBy standing xs
    → All (λ y. y.offset < 256) xs
    → below position (merged_after earlier (place item xs)) ≡ below position (merged_after earlier xs)
below_place position item earlier [] le h small =
    below_none position (merged_after earlier (item ∷ []))
    (All-merged (λ y. position ≤ y.end) earlier (item ∷ [])
    (All-cons (λ y. position ≤ y.end) item [] le (All-nil (λ y. position ≤ y.end))))
below_place position item earlier (x ∷ xs) le h small =
    let P : Candidate → Type 0 = λ y. position ≤ y.end in
    elim (cases_lt (standing item) (standing x)) [
      | inl lt ↦
          let x_small : x.offset < 256 = All-head (λ y. y.offset < 256) x xs small in
          let later : All P xs = late_after position x xs (omega arith) (rising_head standing x xs h)
          (All-tail (λ y. y.offset < 256) x xs small) in
          let all : All P (x ∷ xs) = All-cons P x xs (omega arith) later in
          ap (λ t. below position (merged_after earlier t)) (place_here item x xs lt)
          ∙ below_none position _ (All-merged P earlier (item ∷ x ∷ xs) (All-cons P item (x ∷ xs) le all))
          ∙ sym (below_none position _ (All-merged P earlier (x ∷ xs) all))
      | inr ge ↦
          let step : below position (merged_after (earlier ++ x ∷ []) (place item xs))
          ≡ below position (merged_after (earlier ++ x ∷ []) xs)
          = below_place position item (earlier ++ x ∷ []) xs le (rising_tail standing x xs h)
          (All-tail (λ y. y.offset < 256) x xs small) in
          ap (λ t. below position (merged_after earlier t)) (place_following item x xs ge)
          ∙ elim (list_any (repeats x) earlier)
          as (λ t. below position (if t then merged_after (earlier ++ x ∷ []) (place item xs)
          else x ∷ merged_after (earlier ++ x ∷ []) (place item xs))
          ≡ below position (if t then merged_after (earlier ++ x ∷ []) xs
          else x ∷ merged_after (earlier ++ x ∷ []) xs))
          [ true ↦ step | false ↦ ap (λ t. cond (nat_lt x.end position) (x ∷ t) t) step ]
    ]
  where
    late_after : (position : ℕ) (x : Candidate) (xs : List Candidate) → 256 * position ≤ standing x
        → All (λ y. standing x ≤ standing y) xs → All (λ y. y.offset < 256) xs → All (λ y. position ≤ y.end) xs
    late_after position x xs le h small k d kl = let a = h k d kl in let b = small k d kl in omega arith
