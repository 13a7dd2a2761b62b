-- Places that are asked for one after another.
use Rattle.std.proofs.Common.{◌≡◌, ℕ, ◌+◌, ◌<◌, zero, suc, Bool, true, false, List, [], ◌∷◌, ◌++◌, length, map, filter}
use Rattle.std.proofs.Common.{get_or, set, None, is_some, unwrap_or, slice_get, if◌then◌else◌, ap, sym, ◌∙◌, refl}
use Rattle.std.proofs.Common.{arith, add-one, take, drop, Some, IfSome, subst, ◌-◌}
use Rattle.std.specs.List.{range_with_len}
use Rattle.std.proofs.lemmas.Option.{unwrap_or-slice_get}
use Rattle.std.proofs.lemmas.List.{map-append, append-nil}
use Rattle.std.proofs.lemmas.List.Elements.{filter-append}
use Rattle.selective_reject.specs.declared.place.Place.{Place}
use Rattle.selective_reject.specs.Places.{empty_place, is_full, is_missing, asked_place, with_asked, missing, asked}
use Rattle.selective_reject.specs.Places.{unasked_place, with_unasked, unasked, end_after, full_end}

-- after the last place nothing is there
pub is_full-none : (places : List Place) (k : ℕ) → slice_get places k ≡ None → is_full places k ≡ false
is_full-none places k none =
    ap (λ place. is_some place.packet) (sym (unwrap_or-slice_get places k empty_place)
    ∙ ap (λ o. unwrap_or o empty_place) none)

range-more : (a n : ℕ) → range_with_len a (suc n) ≡ range_with_len a n ++ (a + n) ∷ []
range-more a zero = let same : a ≡ a + 0 = omega arith in ap (λ t. t ∷ []) same
range-more a (suc n) =
    let sum : a + 1 + n ≡ a + suc n = omega arith in
    ap (λ t. a ∷ t) (range-more (a + 1) n ∙ ap (λ t. range_with_len (a + 1) n ++ t ∷ []) sum)

-- one place more may miss its packet
pub missing-more : (places : List Place) (n : ℕ) → missing places (n + 1)
    ≡ missing places n ++ (if is_missing places n then n ∷ [] else [])
unfolding missing
missing-more places n =
    let sum : 0 + n ≡ n = omega arith in
    ap (λ t. filter (is_missing places) (range_with_len 0 t)) (add-one n)
    ∙ ap (filter (is_missing places)) (range-more 0 n ∙ ap (λ t. range_with_len 0 n ++ t ∷ []) sum)
    ∙ filter-append (is_missing places) (range_with_len 0 n) (n ∷ [])

pub missing-none : (places : List Place) → missing places 0 ≡ []
unfolding missing
missing-none places = refl

pub asked-none : (places : List Place) → asked places 0 ≡ places
unfolding asked
asked-none places = refl

pub length-asked : (places : List Place) (n : ℕ) → length (asked places n) ≡ length places
unfolding asked
length-asked places zero = refl
length-asked [] (suc n) = refl
length-asked (place ∷ places) (suc n) = ap suc (length-asked places n)

-- the next place is as it was
pub get_or-asked : (places : List Place) (n : ℕ) (d : Place) → get_or (asked places n) n d ≡ get_or places n d
unfolding asked
get_or-asked places zero d = refl
get_or-asked [] (suc n) d = refl
get_or-asked (place ∷ places) (suc n) d = get_or-asked places n d

asked-suc : (places : List Place) (n : ℕ) → n < length places
    → set (asked places n) n (asked_place (get_or (asked places n) n empty_place)) ≡ asked places (suc n)
unfolding asked
asked-suc [] n within = absurd (omega arith)
asked-suc (place ∷ places) zero within = refl
asked-suc (place ∷ places) (suc n) within = ap (λ t. asked_place place ∷ t) (asked-suc places n (omega arith))

-- one place more is asked for
pub asked-more : (places : List Place) (n : ℕ) → n < length places
    → with_asked (asked places n) n ≡ asked places (n + 1)
asked-more places n within = asked-suc places n within ∙ ap (asked places) (sym (add-one n))

-- the numbers that are asked for, one place further
pub numbers-more : (f : ℕ → ℕ) (places : List Place) (n : ℕ) (b : Bool) (numbers : List ℕ) → b ≡ is_missing places n
    → numbers ≡ map f (missing places n)
    → (if b then numbers ++ f n ∷ [] else numbers) ≡ map f (missing places (n + 1))
numbers-more f places n true numbers is so_far =
    ap (λ t. t ++ f n ∷ []) so_far
    ∙ sym (map-append f (missing places n) (n ∷ []))
    ∙ ap (λ t. map f (missing places n ++ (if t then n ∷ [] else []))) is
    ∙ ap (map f) (sym (missing-more places n))
numbers-more f places n false numbers is so_far =
    so_far
    ∙ ap (map f) (sym (append-nil (missing places n)))
    ∙ ap (λ t. map f (missing places n ++ (if t then n ∷ [] else []))) is
    ∙ ap (map f) (sym (missing-more places n))

-- the first n places are not asked for any more
abbrev pub unasked_to : List Place → ℕ → List Place
unasked_to places n = map unasked_place (take n places) ++ drop n places

unasked-suc : (places : List Place) (n : ℕ) → n < length places
    → set (unasked_to places n) n (unasked_place (get_or (unasked_to places n) n empty_place))
    ≡ unasked_to places (suc n)
unasked-suc [] n within = absurd (omega arith)
unasked-suc (place ∷ places) zero within = refl
unasked-suc (place ∷ places) (suc n) within = ap (λ t. unasked_place place ∷ t) (unasked-suc places n (omega arith))

pub unasked_more : (places : List Place) (n : ℕ) → n < length places
    → with_unasked (unasked_to places n) n ≡ unasked_to places (n + 1)
unasked_more places n within = unasked-suc places n within ∙ ap (unasked_to places) (sym (add-one n))

pub length_unasked_to : (places : List Place) (n : ℕ) → length (unasked_to places n) ≡ length places
length_unasked_to places zero = refl
length_unasked_to [] (suc n) = refl
length_unasked_to (place ∷ places) (suc n) = ap suc (length_unasked_to places n)

pub unasked_all : (places : List Place) (n : ℕ) → n ≡ length places → unasked_to places n ≡ unasked places
unasked_all [] zero is = refl
unasked_all [] (suc n) is = absurd (omega (arith, is))
unasked_all (place ∷ places) zero is = absurd (omega (arith, is))
unasked_all (place ∷ places) (suc n) is = ap (λ t. unasked_place place ∷ t) (unasked_all places n (omega (arith, is)))

-- one place more may be the last that is full
end_further : (full last : Bool) (n rest : ℕ)
    → end_after full (if last then suc n else rest) ≡ (if last then suc (suc n) else end_after full rest)
end_further full true n rest = let same : n + 2 ≡ suc (suc n) = omega arith in same
end_further full false n rest = refl

end_first : (full : Bool) → end_after full 0 ≡ (if full then suc 0 else 0)
end_first true = refl
end_first false = refl

end-suc : (places : List Place) (n : ℕ) → n < length places
    → full_end (take (suc n) places) ≡ (if is_full places n then suc n else full_end (take n places))
end-suc [] n within = absurd (omega arith)
end-suc (place ∷ places) zero within = end_first (is_some place.packet)
end-suc (place ∷ places) (suc n) within =
    ap (end_after (is_some place.packet)) (end-suc places n (omega arith))
    ∙ end_further (is_some place.packet) (is_full places n) n (full_end (take n places))

pub end_more : (places : List Place) (n : ℕ) → n < length places
    → full_end (take (n + 1) places) ≡ (if is_full places n then n + 1 else full_end (take n places))
end_more places n within =
    ap (λ t. full_end (take t places)) (add-one n) ∙ end-suc places n within
    ∙ ap (λ t. if is_full places n then t else full_end (take n places)) (sym (add-one n))

-- the first number that is missing stays it
first_missing_on : (places : List Place) (place d : ℕ) → missing places place ≡ [] → is_missing places place ≡ true
    → slice_get (missing places (place + 1 + d)) 0 ≡ Some place
first_missing_on places place zero none is =
    let sum : place + 1 + 0 ≡ place + 1 = omega arith in
    ap (λ t. slice_get (missing places t) 0) sum
    ∙ ap (λ t. slice_get t 0) (missing-more places place)
    ∙ ap (λ t. slice_get (t ++ (if is_missing places place then place ∷ [] else [])) 0) none
    ∙ ap (λ t. slice_get (if t then place ∷ [] else []) 0) is
first_missing_on places place (suc d) none is =
    let sum : place + 1 + suc d ≡ place + 1 + d + 1 = omega arith in
    let so_far = first_missing_on places place d none is in
    ap (λ t. slice_get (missing places t) 0) sum
    ∙ ap (λ t. slice_get t 0) (missing-more places (place + 1 + d))
    ∙ first_stays (missing places (place + 1 + d)) _ place so_far
  where
    first_stays : (xs ys : List ℕ) (x : ℕ) → slice_get xs 0 ≡ Some x → slice_get (xs ++ ys) 0 ≡ Some x
    first_stays [] ys x e = absurd (subst (λ o. IfSome o (λ y. ⊥)) e tt)
    first_stays (z ∷ xs) ys x e = e

pub first_of_missing : (places : List Place) (place n : ℕ) → missing places place ≡ [] → is_missing places place ≡ true
    → place < n → slice_get (missing places n) 0 ≡ Some place
first_of_missing places place n none is less =
    let sum : n ≡ place + 1 + (n - (place + 1)) = omega (arith, less) in
    ap (λ t. slice_get (missing places t) 0) sum ∙ first_missing_on places place (n - (place + 1)) none is

pub none_missing_more : (places : List Place) (place : ℕ) → missing places place ≡ [] → is_missing places place ≡ false
    → missing places (place + 1) ≡ []
none_missing_more places place none is =
    missing-more places place ∙ ap (λ t. t ++ (if is_missing places place then place ∷ [] else [])) none
    ∙ ap (λ t. if t then place ∷ [] else []) is
