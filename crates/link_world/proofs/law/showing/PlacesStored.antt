-- The packets in places, by their numbers, when a place is filled, asked for or left after.
use Rattle.link_world.proofs.Common.{◌≡◌, ℕ, zero, suc, ◌+◌, ◌<◌, ◌≤◌, Bool, true, false, List, [], ◌∷◌, ◌++◌, length}
use Rattle.link_world.proofs.Common.{drop, replicate, slice_get, Option, Some, None, IfSome, is_some, if◌then◌else◌}
use Rattle.link_world.proofs.Common.{refl, sym, ap, ◌∙◌, subst, arith, false≢true, not, ◌||◌, Packet, Place}
use Rattle.link_world.proofs.Common.{empty_place}
use Rattle.link_world.proofs.Common.{packet_at, is_full, with_packet, with_asked, unasked, missing, full_end}
use Rattle.link_world.proofs.Common.{first_missing}
use Rattle.std.proofs.Common.{filter}
use Rattle.std.specs.List.{AllByRecursion as Each, range_with_len}
use Rattle.selective_reject.specs.Places.{end_after, is_missing}
use Rattle.link_world.proofs.law.reduced.Core.{Stored}
use Rattle.link_world.proofs.law.reduced.CoreOf.{stored_before, stored_from}

-- empty places at the end hold nothing
pub stored_empty : (n count : ℕ) → stored_from n (replicate count empty_place) ≡ []
stored_empty n zero = refl
stored_empty n (suc count) = stored_empty (n + 1) count

pub stored_after :
    (n count : ℕ) (ps : List Place) → stored_from n (ps ++ replicate count empty_place) ≡ stored_from n ps
stored_after n count [] = stored_empty n count
stored_after n count (p ∷ ps) = ap (λ t. stored_before n p.packet t) (stored_after (n + 1) count ps)

-- nothing is in the first place
pub stored_first_empty :
    (n : ℕ) (ps : List Place) → packet_at ps 0 ≡ None → stored_from (n + 1) (drop 1 ps) ≡ stored_from n ps
stored_first_empty n [] none = refl
stored_first_empty n (p ∷ ps) none = ap (λ o. stored_before n o (stored_from (n + 1) ps)) (sym none)

-- asking for a packet changes none, and neither does asking for none any more
pub stored_with_asked : (n k : ℕ) (ps : List Place) → stored_from n (with_asked ps k) ≡ stored_from n ps
stored_with_asked n k [] = refl
stored_with_asked n zero (p ∷ ps) = refl
stored_with_asked n (suc k) (p ∷ ps) = ap (λ t. stored_before n p.packet t) (stored_with_asked (n + 1) k ps)

pub stored_unasked : (n : ℕ) (ps : List Place) → stored_from n (unasked ps) ≡ stored_from n ps
stored_unasked n [] = refl
stored_unasked n (p ∷ ps) = ap (λ t. stored_before n p.packet t) (stored_unasked (n + 1) ps)

-- the packets before a place and after it
pub record IsPlaced (n k : ℕ) (packet : Packet) (ps : List Place) : Type 0 where
  pub before : List Stored
  pub after : List Stored
  pub was : stored_from n ps ≡ before ++ after
  pub is : stored_from n (with_packet ps k packet) ≡ before ++ record { number = n + k; packet = packet } ∷ after

none_of_full : (o : Option Packet) → is_some o ≡ false → o ≡ None
none_of_full None e = refl
none_of_full (Some p) e = absurd (false≢true (sym e))

placed_later :
    {n k : ℕ} {packet : Packet} (o : Option Packet) {p : Place} {ps : List Place} → p.packet ≡ o
    → IsPlaced (n + 1) k packet ps → IsPlaced n (suc k) packet (p ∷ ps)
placed_later {n} {k} {packet} None {ps} is h =
    let further : n + 1 + k ≡ n + suc k = omega arith in
    record {
      before = h.before;
      after = h.after;
      was = ap (λ o. stored_before n o (stored_from (n + 1) ps)) is ∙ h.was;
      is = ap (λ o. stored_before n o (stored_from (n + 1) (with_packet ps k packet))) is ∙ h.is
          ∙ ap (λ t. h.before ++ record { number = t; packet = packet } ∷ h.after) further;
    }
placed_later {n} {k} {packet} (Some q) {ps} is h =
    let further : n + 1 + k ≡ n + suc k = omega arith in
    record {
      before = record { number = n; packet = q } ∷ h.before;
      after = h.after;
      was = ap (λ o. stored_before n o (stored_from (n + 1) ps)) is
          ∙ ap (λ t. record { number = n; packet = q } ∷ t) h.was;
      is = ap (λ o. stored_before n o (stored_from (n + 1) (with_packet ps k packet))) is
          ∙ ap (λ t. record { number = n; packet = q } ∷ t)
          (h.is ∙ ap (λ t. h.before ++ record { number = t; packet = packet } ∷ h.after) further);
    }

-- an empty place is filled
pub place_filled :
    (n k : ℕ) {packet : Packet} (ps : List Place) → k < length ps → is_full ps k ≡ false → IsPlaced n k packet ps
place_filled n k [] within empty = absurd (omega arith)
place_filled n zero {packet} (p ∷ ps) within empty =
    let here : n ≡ n + 0 = omega arith in
    record {
      before = [];
      after = stored_from (n + 1) ps;
      was = ap (λ o. stored_before n o (stored_from (n + 1) ps)) (none_of_full p.packet empty);
      is = ap (λ t. record { number = t; packet = packet } ∷ stored_from (n + 1) ps) here;
    }
place_filled n (suc k) (p ∷ ps) within empty =
    placed_later p.packet refl (place_filled (n + 1) k ps (omega arith) empty)

-- nothing is stored, or the last packet is in the last place that is full
data Ends (n : ℕ) (ps : List Place) : Type 0 where
  is_empty : stored_from n ps ≡ [] → full_end ps ≡ 0 → Ends n ps
  has_last : (before : List Stored) (last : Stored) → stored_from n ps ≡ before ++ last ∷ []
      → last.number + 1 ≡ n + full_end ps → 1 ≤ full_end ps → Ends n ps

end_of_some : (full : Bool) (end : ℕ) → 1 ≤ end → end_after full end ≡ end + 1
end_of_some full zero some = absurd (omega (arith, some))
end_of_some full (suc end) some = let same : end + 2 ≡ suc end + 1 = omega arith in same

ends : (n : ℕ) (ps : List Place) → Ends n ps
ends n [] = is_empty refl refl
ends n (p ∷ ps) = further p.packet refl (ends (n + 1) ps)
  where
    further : (o : Option Packet) → p.packet ≡ o → Ends (n + 1) ps → Ends n (p ∷ ps)
    further None is (is_empty none zero_is) =
        is_empty (ap (λ o. stored_before n o (stored_from (n + 1) ps)) is ∙ none)
        (ap (λ o. end_after (is_some o) (full_end ps)) is ∙ ap (end_after false) zero_is)
    further (Some q) is (is_empty none zero_is) =
        let first : full_end (p ∷ ps) ≡ 1 =
        ap (λ o. end_after (is_some o) (full_end ps)) is ∙ ap (end_after true) zero_is in
        has_last [] (record { number = n; packet = q })
        (ap (λ o. stored_before n o (stored_from (n + 1) ps)) is ∙ ap (λ t. record { number = n; packet = q } ∷ t) none)
        (omega (arith, first)) (omega (arith, first))
    further None is (has_last before last stored number some) =
        let next = end_of_some (is_some p.packet) (full_end ps) some in
        has_last before last (ap (λ o. stored_before n o (stored_from (n + 1) ps)) is ∙ stored)
        (omega (arith, next, number)) (omega (arith, next))
    further (Some q) is (has_last before last stored number some) =
        let next = end_of_some (is_some p.packet) (full_end ps) some in
        has_last (record { number = n; packet = q } ∷ before) last
        (ap (λ o. stored_before n o (stored_from (n + 1) ps)) is
        ∙ ap (λ t. record { number = n; packet = q } ∷ t) stored) (omega (arith, next, number)) (omega (arith, next))

first_is_lower :
    (asked full : Bool) (end : ℕ) → not (asked || full) ≡ true → 0 < end_after full end → 0 + 1 < end_after full end
first_is_lower true full end is below = absurd (false≢true is)
first_is_lower false true end is below = absurd (false≢true is)
first_is_lower false false zero is below = absurd (omega (arith, below))
first_is_lower false false (suc end) is below = omega arith

next_is_lower :
    (full : Bool) (k end : ℕ) → suc k < end_after full end → (k < end → k + 1 < end) → suc k + 1 < end_after full end
next_is_lower true k zero below rest = absurd (omega (arith, below))
next_is_lower false k zero below rest = absurd (omega (arith, below))
next_is_lower full k (suc end) below rest =
    let here : k < suc end = omega (arith, below) in let further = rest here in omega (arith, further)

-- a place that misses its packet is not the last that is full
missing_is_lower : (ps : List Place) (k : ℕ) → is_missing ps k ≡ true → k < full_end ps → k + 1 < full_end ps
missing_is_lower [] k is below = absurd (omega (arith, below))
missing_is_lower (p ∷ ps) zero is below = first_is_lower p.asked (is_some p.packet) (full_end ps) is below
missing_is_lower (p ∷ ps) (suc k) is below =
    next_is_lower (is_some p.packet) k (full_end ps) below (missing_is_lower ps k is)

range_below : (a k b : ℕ) → a + k ≤ b → Each (λ j. j < b) (range_with_len a k)
range_below a zero b le = tt
range_below a (suc k) b le = (omega arith, range_below (a + 1) k b (omega arith))

filter_one :
    (P : ℕ → Type 0) (test : ℕ → Bool) (x : ℕ) (xs : List ℕ) (b : Bool) → test x ≡ b → P x
    → Each (λ j. P j × (test j ≡ true)) xs → Each (λ j. P j × (test j ≡ true)) (if b then x ∷ xs else xs)
filter_one P test x xs true is here rest = ((here, is), rest)
filter_one P test x xs false is here rest = rest

filter_each :
    (P : ℕ → Type 0) (test : ℕ → Bool) (xs : List ℕ) → Each P xs
    → Each (λ j. P j × (test j ≡ true)) (filter test xs)
filter_each P test [] h = tt
filter_each P test (x ∷ xs) h =
    filter_one P test x (filter test xs) (test x) refl h.0 (filter_each P test xs h.1)

-- the numbers that are missing before a place
missing_below : (ps : List Place) (end : ℕ) → Each (λ j. (j < end) × (is_missing ps j ≡ true)) (missing ps end)
unfolding missing
missing_below ps end =
    filter_each (λ j. j < end) (is_missing ps) (range_with_len 0 end) (range_below 0 end end (omega arith))

first_of : (P : ℕ → Type 0) (xs : List ℕ) {k : ℕ} → Each P xs → slice_get xs 0 ≡ Some k → P k
first_of P [] h is = absurd (subst (λ o. IfSome o (λ y. ⊥)) is tt)
first_of P (x ∷ xs) h is = subst (λ o. IfSome o P) is h.0

-- the number that SREJ asks for lies below one that is stored
pub record IsBelowOne (n k : ℕ) (ps : List Place) : Type 0 where
  pub before : List Stored
  pub last : Stored
  pub stored : stored_from n ps ≡ before ++ last ∷ []
  pub below : n + k < last.number

pub missing_before : (n : ℕ) (ps : List Place) {k : ℕ} → first_missing ps ≡ Some k → IsBelowOne n k ps
missing_before n ps {k} is = by_end (ends n ps)
  where
    first : (k < full_end ps) × (is_missing ps k ≡ true)
    first = first_of (λ j. (j < full_end ps) × (is_missing ps j ≡ true)) (missing ps (full_end ps))
        (missing_below ps (full_end ps)) is

    by_end : Ends n ps → IsBelowOne n k ps
    by_end (is_empty none zero_is) = let below = first.0 in absurd (omega (arith, below, zero_is))
    by_end (has_last before last stored number some) =
        let further = missing_is_lower ps k first.1 first.0 in
        record { before = before; last = last; stored = stored; below = omega (arith, further, number) }
