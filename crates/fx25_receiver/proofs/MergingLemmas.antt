-- What merging leaves out, along a list, and what of it has to be kept.
use Rattle.fx25_receiver.proofs.Common.{◌≡◌, ℕ, ◌+◌, ◌<◌, ◌≤◌, Bool, true, false, List, [], ◌∷◌, ◌++◌, ap, sym, ◌∙◌}
use Rattle.std.specs.Str.{bytes_eq}
use Rattle.fx25_receiver.proofs.Common.{arith, cond, ◌&&◌, ◌||◌, refl, and-false, append-nil, append_snoc, le-leb}
use Rattle.fx25_receiver.proofs.Common.{lt-leb}
use Rattle.fx25_receiver.proofs.Common.{cases_lt, inl, inr, filter-append, list_any, nat_le, if◌then◌else◌}
use Rattle.fx25_receiver.proofs.Common.{Heard, Keeps, not_past, merged, merged_after, reach, repeats}

-- merging goes along a list: what comes later is compared with all that came before
pub merged_after-append : (earlier xs ys : List Heard)
    → merged_after earlier (xs ++ ys) ≡ merged_after earlier xs ++ merged_after (earlier ++ xs) ys
merged_after-append earlier [] ys = ap (λ e. merged_after e ys) (sym (append-nil earlier))
merged_after-append earlier (x ∷ xs) ys =
    let step : merged_after (earlier ++ x ∷ []) (xs ++ ys) ≡ merged_after (earlier ++ x ∷ []) xs
    ++ merged_after (earlier ++ x ∷ xs) ys
    = merged_after-append (earlier ++ x ∷ []) xs ys ∙ ap (λ e. merged_after (earlier ++ x ∷ []) xs ++ merged_after e ys)
    (append_snoc earlier x xs) in
    elim (list_any (repeats x) earlier)
    as (λ t. (if t then merged_after (earlier ++ x ∷ []) (xs ++ ys)
    else x ∷ merged_after (earlier ++ x ∷ []) (xs ++ ys))
    ≡ (if t then merged_after (earlier ++ x ∷ []) xs else x ∷ merged_after (earlier ++ x ∷ []) xs)
    ++ merged_after (earlier ++ x ∷ xs) ys)
    [ true ↦ step | false ↦ ap (λ t. x ∷ t) step ]

merged-push : (heard : List Heard) (item : Heard)
    → merged (heard ++ item ∷ []) ≡ merged heard ++ (if list_any (repeats item) heard then [] else item ∷ [])
merged-push heard item = merged_after-append [] heard (item ∷ [])

-- all that is asked of an item that repeats another but that its end be near
abbrev looks_alike : Heard → Heard → Bool
looks_alike item earlier =
    (bytes_eq earlier.octets item.octets && nat_le item.at (earlier.at + 15)) && nat_le earlier.at (item.at + 15)

-- what ended long before an item is not repeated by it
long_past : (least : ℕ) (item earlier : Heard) → earlier.end + reach < least → least ≤ item.end
    → repeats item earlier ≡ false
long_past least item earlier past late =
    ap (λ b. looks_alike item earlier && b) (lt-leb item.end (earlier.end + reach) (omega arith))
    ∙ and-false (looks_alike item earlier)

-- so it need not be kept
any_kept : (least : ℕ) (item : Heard) (heard : List Heard) → least ≤ item.end
    → list_any (repeats item) (not_past least heard) ≡ list_any (repeats item) heard
any_kept least item [] late = refl
any_kept least item (x ∷ xs) late =
    elim (cases_lt (x.end + reach) least) [
      | inl past ↦
          ap (λ b. list_any (repeats item) (cond b (x ∷ not_past least xs) (not_past least xs)))
          (lt-leb least (x.end + reach) past)
          ∙ any_kept least item xs late
          ∙ ap (λ b. b || list_any (repeats item) xs) (sym (long_past least item x past late))
      | inr near ↦
          ap (λ b. list_any (repeats item) (cond b (x ∷ not_past least xs) (not_past least xs)))
          (le-leb least (x.end + reach) near)
          ∙ ap (λ b. repeats item x || b) (any_kept least item xs late)
    ]

-- one more is kept
pub keeps_push : (kept : List Heard) (count : ℕ) (heard : List Heard) (item : Heard) → count ≤ item.end
    → Keeps kept count heard → Keeps (kept ++ item ∷ []) count (heard ++ item ∷ [])
keeps_push kept count heard item late keeps =
    let least = keeps.least in
    let below = keeps.below in
    record {
      least = least;
      below = below;
      kept_is = ap (λ xs. xs ++ item ∷ []) keeps.kept_is
          ∙ ap (λ b. not_past least heard ++ cond b (item ∷ []) [])
          (sym (le-leb least (item.end + reach) (omega arith)))
          ∙ sym (filter-append (λ x. nat_le least (x.end + reach)) heard (item ∷ []));
    }

-- an item is given if it repeats nothing that is kept
pub merged_kept : (kept : List Heard) (count : ℕ) (heard : List Heard) (item : Heard) (repeated : Bool)
    → count ≤ item.end → Keeps kept count heard → repeated ≡ list_any (repeats item) kept
    → merged (heard ++ item ∷ []) ≡ merged heard ++ (if repeated then [] else item ∷ [])
merged_kept kept count heard item repeated late keeps is =
    let below = keeps.below in
    let same : repeated ≡ list_any (repeats item) heard =
    is ∙ ap (list_any (repeats item)) keeps.kept_is ∙ any_kept keeps.least item heard (omega arith) in
    merged-push heard item ∙ ap (λ b. merged heard ++ (if b then [] else item ∷ [])) (sym same)

not_past-not_past : (was now : ℕ) (xs : List Heard) → was ≤ now → not_past now (not_past was xs) ≡ not_past now xs
not_past-not_past was now [] le = refl
not_past-not_past was now (x ∷ xs) le =
    elim (cases_lt (x.end + reach) was) [
      | inl past ↦
          ap (λ b. not_past now (cond b (x ∷ not_past was xs) (not_past was xs))) (lt-leb was (x.end + reach) past)
          ∙ not_past-not_past was now xs le
          ∙ ap (λ b. cond b (x ∷ not_past now xs) (not_past now xs))
          (sym (lt-leb now (x.end + reach) (omega arith)))
      | inr near ↦
          ap (λ b. not_past now (cond b (x ∷ not_past was xs) (not_past was xs))) (le-leb was (x.end + reach) near)
          ∙ ap (λ rest. cond (nat_le now (x.end + reach)) (x ∷ rest) rest) (not_past-not_past was now xs le)
    ]

-- what is past can be forgotten
pub keeps_fewer : (kept fewer : List Heard) (was count : ℕ) (heard : List Heard) → was ≤ count
    → Keeps kept was heard → fewer ≡ not_past count kept → Keeps fewer count heard
keeps_fewer kept fewer was count heard le keeps is =
    let below = keeps.below in
    record {
      least = count;
      below = omega arith;
      kept_is = is ∙ ap (not_past count) keeps.kept_is ∙ not_past-not_past keeps.least count heard (omega arith);
    }

-- and more samples change nothing
pub keeps_on : (kept : List Heard) (was count : ℕ) (heard : List Heard) → was ≤ count → Keeps kept was heard
    → Keeps kept count heard
keeps_on kept was count heard le keeps =
    let below = keeps.below in record { least = keeps.least; below = omega arith; kept_is = keeps.kept_is }
