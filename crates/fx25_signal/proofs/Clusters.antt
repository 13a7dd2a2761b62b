-- Merging when items lie in clusters: equal octets, plain ends at most 15 apart, and ends at most 20,000 after these,
-- each cluster more than 15 after all ends of the one before. One item of each cluster remains.
use Rattle.fx25_signal.proofs.Common.{◌≡◌, ℕ, ◌+◌, ◌<◌, ◌≤◌, ◌⊎◌, Bool, true, false, List, [], ◌∷◌, ◌++◌, map, refl, ap}
use Rattle.fx25_signal.proofs.Common.{sym, ◌∙◌, arith, inl, inr, ◌&&◌, ◌||◌, nat_le, AllByRecursion, bytes_eq, list_any}
use Rattle.fx25_signal.proofs.Common.{Heard, merged_after, repeats}
use Rattle.std.proofs.lemmas.Bool.{cond-true, cond-false, le-leb, lt-leb}
use Rattle.std.proofs.lemmas.List.Folds.{list_any-append}
use Rattle.std.proofs.lemmas.Slice.Eq.{bytes_eq-Decides}

-- the octets of a frame, the least and the greatest plain end at which it is heard, and the last end of all
pub record Cluster : Type 0 where
  pub low : ℕ
  pub high : ℕ
  pub last : ℕ
  pub octets : List ℕ

pub record IsIn (c : Cluster) (item : Heard) : Type 0 where
  pub octets : item.octets ≡ c.octets
  pub low : c.low ≤ item.at
  pub high : item.at ≤ c.high
  pub waits : item.at ≤ item.end
  pub last : item.end ≤ c.last

-- a cluster is at most 15 wide, ends at most 20,000 after that, and is more than 15 after a place
pub record IsAfter (place : ℕ) (c : Cluster) : Type 0 where
  pub far : place + 15 < c.low
  pub rising : c.low ≤ c.last
  pub narrow : c.high ≤ c.low + 15
  pub short : c.last ≤ c.low + 20000

-- each cluster is after the one before
abbrev pub AreAfter : ℕ → List Cluster → Type 0
AreAfter place [] = Unit {0}
AreAfter place (c ∷ cs) = IsAfter place c × AreAfter c.last cs

abbrev pub IsInOne : List Cluster → Heard → Type 0
IsInOne [] item = ⊥
IsInOne (c ∷ cs) item = IsIn c item ⊎ IsInOne cs item

abbrev pub HasOne : List Heard → Cluster → Type 0
HasOne [] c = ⊥
HasOne (item ∷ items) c = IsIn c item ⊎ HasOne items c

abbrev pub Rising : ℕ → List Heard → Type 0
Rising from [] = Unit {0}
Rising from (item ∷ items) = (from ≤ item.end) × Rising item.end items

abbrev pub Below : ℕ → List Heard → Type 0
Below place items = AllByRecursion (λ item. item.at ≤ place) items

-- an item of the cluster under way, which ends at a place, repeats one before it; each other item is in a cluster to
-- come
abbrev pub IsKnown : List Heard → ℕ → List Cluster → Heard → Type 0
IsKnown before place cs item =
    ((item.at ≤ item.end) × (item.end ≤ place) × (list_any (repeats item) before ≡ true)) ⊎ IsInOne cs item

abbrev pub Known : List Heard → ℕ → List Cluster → List Heard → Type 0
Known before place cs items = AllByRecursion (IsKnown before place cs) items

-- ---- tests

-- what repeats an item of a list repeats one of a longer list
repeats_more : (item : Heard) (before more : List Heard) → list_any (repeats item) before ≡ true
    → list_any (repeats item) (before ++ more) ≡ true
repeats_more item before more h =
    list_any-append (repeats item) before more ∙ ap (λ b. b || list_any (repeats item) more) h

or_true : (b : Bool) → (b || true) ≡ true
or_true true = refl
or_true false = refl

-- two items of one cluster: the later one repeats the earlier
repeats_last : (place : ℕ) (c : Cluster) (item earlier : Heard) (before : List Heard) → IsAfter place c
    → IsIn c earlier → IsIn c item → list_any (repeats item) (before ++ earlier ∷ []) ≡ true
repeats_last place c item earlier before following first second =
    let narrow = following.narrow in
    let short = following.short in
    let low_first = first.low in
    let high_first = first.high in
    let waits = first.waits in
    let low_second = second.low in
    let high_second = second.high in
    let last = second.last in
    let octets : bytes_eq earlier.octets item.octets ≡ true =
    (bytes_eq-Decides earlier.octets item.octets).1 (first.octets ∙ sym second.octets) in
    let near : nat_le item.at (earlier.at + 15) ≡ true = le-leb item.at (earlier.at + 15) (omega arith) in
    let close : nat_le earlier.at (item.at + 15) ≡ true = le-leb earlier.at (item.at + 15) (omega arith) in
    let soon : nat_le item.end (earlier.end + 20000) ≡ true = le-leb item.end (earlier.end + 20000) (omega arith) in
    let one : list_any (repeats item) (earlier ∷ []) ≡ true = rw (octets, near, close, soon) refl in
    list_any-append (repeats item) before (earlier ∷ [])
    ∙ ap (λ b. list_any (repeats item) before || b) one ∙ or_true (list_any (repeats item) before)

and_false : (b : Bool) → (b && false) ≡ false
and_false true = refl
and_false false = refl

-- an item that is far after repeats none
repeats_none : (item : Heard) (place : ℕ) (before : List Heard) → Below place before → place + 15 < item.at
    → list_any (repeats item) before ≡ false
repeats_none item place [] below far = refl
repeats_none item place (earlier ∷ before) below far =
    let at : earlier.at ≤ place = below.0 in
    let late : nat_le item.at (earlier.at + 15) ≡ false = lt-leb item.at (earlier.at + 15) (omega arith) in
    let close : Bool = nat_le earlier.at (item.at + 15) in
    let soon : Bool = nat_le item.end (earlier.end + 20000) in
    let not : repeats item earlier ≡ false =
    ap (λ b. ((bytes_eq earlier.octets item.octets && b) && close) && soon) late
    ∙ ap (λ b. (b && close) && soon) (and_false (bytes_eq earlier.octets item.octets)) in
    ap (λ b. b || list_any (repeats item) before) not ∙ repeats_none item place before below.1 far

-- ---- places

below_more : (place more : ℕ) (before : List Heard) (item : Heard) → place ≤ more → Below place before
    → item.at ≤ more → Below more (before ++ item ∷ [])
below_more place more [] item le below at = (at, tt)
below_more place more (earlier ∷ before) item le below at =
    let first = below.0 in (omega arith, below_more place more before item le below.1 at)

-- an item of a cluster to come has its plain end far after the place, and its end no earlier
later_end : (place : ℕ) (cs : List Cluster) (item : Heard) → AreAfter place cs → IsInOne cs item
    → (place + 15 < item.at) × (item.at ≤ item.end)
later_end place [] item apart is = absurd is
later_end place (c ∷ cs) item apart (inl is) = (omega (arith, apart.0.far, is.low), is.waits)
later_end place (c ∷ cs) item apart (inr is) =
    let later = later_end c.last cs item apart.1 is in (
      omega (
        arith,
        apart.0.far,
        apart.0.rising,
        later.0,
      ),
      later.1,
    )

-- an item that ends early is in no cluster to come
has_one_later : (item : Heard) (items : List Heard) (c : Cluster) → item.end < c.low → HasOne (item ∷ items) c
    → HasOne items c
has_one_later item items c early (inl is) = absurd (omega (arith, is.low, is.waits))
has_one_later item items c early (inr has) = has

have_one_later : (item : Heard) (items : List Heard) (place : ℕ) (cs : List Cluster) → item.end ≤ place
    → AreAfter place cs → AllByRecursion (HasOne (item ∷ items)) cs → AllByRecursion (HasOne items) cs
have_one_later item items place [] early apart has = tt
have_one_later item items place (c ∷ cs) early apart has =
    let first = apart.0 in (
      has_one_later item items c (omega (arith, first.far)) has.0,
      have_one_later item items c.last cs (omega (arith, first.far, first.rising)) apart.1 has.1,
    )

-- no item that ends after a cluster is in it, nor any that follows
none_after : (items : List Heard) (from : ℕ) (c : Cluster) → c.last < from → Rising from items → ¬ HasOne items c
none_after [] from c late rising has = has
none_after (item ∷ items) from c late rising (inl is) = omega (arith, rising.0, is.last)
none_after (item ∷ items) from c late rising (inr has) =
    none_after items item.end c (omega (arith, rising.0)) rising.1 has

-- ---- what is known of the items that are left

known_kept : (before : List Heard) (place : ℕ) (cs : List Cluster) (item : Heard) (items : List Heard)
    → Known before place cs items → Known (before ++ item ∷ []) place cs items
known_kept before place cs item [] known = tt
known_kept before place cs item (next ∷ items) known = (kept known.0, known_kept before place cs item items known.1)
  where
    kept : IsKnown before place cs next → IsKnown (before ++ item ∷ []) place cs next
    kept (inl old) = inl (old.0, old.1, repeats_more next before (item ∷ []) old.2)
    kept (inr is) = inr is

-- the first cluster to come becomes the one under way with its first item
known_next : (before : List Heard) (place : ℕ) (c : Cluster) (cs : List Cluster) (item : Heard) (items : List Heard)
    → IsAfter place c → IsIn c item → Known before place (c ∷ cs) items → Known (before ++ item ∷ []) c.last cs items
known_next before place c cs item [] following is known = tt
known_next before place c cs item (next ∷ items) following is known =
    (now known.0, known_next before place c cs item items following is known.1)
  where
    now : IsKnown before place (c ∷ cs) next → IsKnown (before ++ item ∷ []) c.last cs next
    now (inl old) =
        inl (
          old.0,
          omega (arith, old.1, following.far, following.rising),
          repeats_more next before (item ∷ []) old.2,
        )
    now (inr (inl in_it)) = inl (in_it.waits, in_it.last, repeats_last place c next item before following is in_it)
    now (inr (inr later)) = inr later

-- ---- the theorem

-- an item that repeats one before it is left out
left_out : (item : Heard) (items before : List Heard) (frames : List (List ℕ)) → list_any (repeats item) before ≡ true
    → map (λ x. x.octets) (merged_after (before ++ item ∷ []) items) ≡ frames
    → map (λ x. x.octets) (merged_after before (item ∷ items)) ≡ frames
left_out item items before frames is rest =
    let after : List Heard = merged_after (before ++ item ∷ []) items in
    ap (λ xs. map (λ x. x.octets) xs) (cond-true (list_any (repeats item) before) after (item ∷ after) is) ∙ rest

-- an item that repeats none remains
kept : (item : Heard) (items before : List Heard) (octets : List ℕ) (frames : List (List ℕ))
    → list_any (repeats item) before ≡ false
    → item.octets ≡ octets → map (λ x. x.octets) (merged_after (before ++ item ∷ []) items) ≡ frames
    → map (λ x. x.octets) (merged_after before (item ∷ items)) ≡ octets ∷ frames
kept item items before octets frames is_none is rest =
    let after : List Heard = merged_after (before ++ item ∷ []) items in
    ap (λ xs. map (λ x. x.octets) xs) (cond-false (list_any (repeats item) before) after (item ∷ after) is_none)
    ∙ ap (λ o. o ∷ map (λ x. x.octets) after) is ∙ ap (λ os. octets ∷ os) rest

-- what is merged of the items that are left has the octets of the clusters to come
abbrev pub Keeps : List Heard → Type 0
Keeps items =
    (before : List Heard) (place from : ℕ) (cs : List Cluster)
    → Below place before → Rising from items → Known before place cs items → AreAfter place cs
    → AllByRecursion (HasOne items) cs
    → map (λ item. item.octets) (merged_after before items) ≡ map (λ c. c.octets) cs

keeps_nil : Keeps []
keeps_nil before place from [] below rising known apart has = refl
keeps_nil before place from (c ∷ cs) below rising known apart has = absurd has.0

keeps_cons : (item : Heard) (items : List Heard) → Keeps items → Keeps (item ∷ items)
keeps_cons item items rest before place from [] below rising known apart has = by_first known.0
  where
    by_first : IsKnown before place [] item → map (λ x. x.octets) (merged_after before (item ∷ items)) ≡ []
    by_first (inl old) =
        left_out item items before [] old.2
        (rest (before ++ item ∷ []) place item.end []
        (below_more place place before item (omega arith) below (omega (arith, old.0, old.1)))
        rising.1 (known_kept before place [] item items known.1) apart tt)
    by_first (inr is) = absurd is
keeps_cons item items rest before place from (c ∷ cs) below rising known apart has = by_first known.0
  where
    by_first : IsKnown before place (c ∷ cs) item
        → map (λ x. x.octets) (merged_after before (item ∷ items)) ≡ c.octets ∷ map (λ c. c.octets) cs
    by_first (inl old) =
        left_out item items before (c.octets ∷ map (λ c. c.octets) cs) old.2
        (rest (before ++ item ∷ []) place item.end (c ∷ cs)
        (below_more place place before item (omega arith) below (omega (arith, old.0, old.1)))
        rising.1 (known_kept before place (c ∷ cs) item items known.1) apart
        (have_one_later item items place (c ∷ cs) old.1 apart has))
    by_first (inr (inl is)) =
        kept item items before c.octets (map (λ c. c.octets) cs)
        (repeats_none item place before below (omega (arith, apart.0.far, is.low))) is.octets
        (rest (before ++ item ∷ []) c.last item.end cs
        (below_more place c.last before item (omega (arith, apart.0.far, apart.0.rising)) below
        (omega (arith, is.waits, is.last)))
        rising.1 (known_next before place c cs item items apart.0 is known.1) apart.1
        (have_one_later item items c.last cs is.last apart.1 has.1))
    by_first (inr (inr later)) =
        let far = later_end c.last cs item apart.1 later in
        absurd (none_after (item ∷ items) item.end c (omega (arith, far.0, far.1)) (omega arith, rising.1) has.0)

pub merge_keeps : (items : List Heard) → Keeps items
merge_keeps [] = keeps_nil
merge_keeps (item ∷ items) = keeps_cons item items (merge_keeps items)
