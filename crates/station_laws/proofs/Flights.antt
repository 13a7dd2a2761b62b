-- What is in flight from the links of a station: the frames that were queued, each with its tags if it is a frame of
-- the link that is meant, read along the pairs that are still to be heard.
use Rattle.station_laws.proofs.Common.{◌≡◌, ℕ, zero, suc, ◌+◌, ◌<◌, ◌≤◌, Bool, true, false, ◌||◌, List, [], ◌∷◌, ◌++◌}
use Rattle.station_laws.proofs.Common.{length, map, Option, Some, None, get_or, refl, sym, ap, ◌∙◌, arith, inl, inr, ⊤}
use Rattle.station_laws.proofs.Common.{range_with_len, cases_lt, cases_eq, eq-eqb, ne_eqb, append-nil, append_assoc}
use Rattle.station_laws.proofs.Common.{get_or_append_left, get_or-append-add, get_or_past, length-append, Tagged, kept}
use Rattle.station_laws.proofs.Common.{Pair, is_named, marks_from}
use Rattle.std.specs.List.{AllByRecursion as Each}
use Rattle.link_world.specs.Changes.{kept_by}

-- pairs that rise in both numbers, from two numbers on
abbrev pub RiseFrom : (heard sent : ℕ) → List Pair → Type 0
RiseFrom heard sent [] = ⊤
RiseFrom heard sent (p ∷ ps) = (heard ≤ p.heard) × (sent ≤ p.sent) × RiseFrom (p.heard + 1) (p.sent + 1) ps

abbrev pub before_flight : Option Tagged → List Tagged → List Tagged
before_flight None fs = fs
before_flight (Some f) fs = f ∷ fs

abbrev pub tag_at : List (Option Tagged) → ℕ → Option Tagged
tag_at tags number = get_or tags number None

-- the frames of the link that the pairs name, in their order
abbrev pub flight : List (Option Tagged) → List Pair → List Tagged
flight tags [] = []
flight tags (p ∷ ps) = before_flight (tag_at tags p.sent) (flight tags ps)

-- a lower start is weaker
pub rise_lower :
    (h k s t : ℕ) (ps : List Pair) → k ≤ h → t ≤ s → RiseFrom h s ps → RiseFrom k t ps
rise_lower h k s t [] low below r = tt
rise_lower h k s t (p ∷ ps) low below r = let a = r.0 in let b = r.1 in (omega arith, omega arith, r.2)

-- past the end there is nothing
pub flight_past : (tags : List (Option Tagged)) (h s : ℕ) (ps : List Pair) → length tags ≤ s → RiseFrom h s ps
    → flight tags ps ≡ []
flight_past tags h s [] past r = refl
flight_past tags h s (p ∷ ps) past r =
    let at = r.1 in
    let within : length tags ≤ p.sent = omega arith in
    ap (λ o. before_flight o (flight tags ps)) (get_or_past tags p.sent None within)
    ∙ flight_past tags (p.heard + 1) (p.sent + 1) ps (omega arith) r.2

-- frames of no link, or of another, add nothing
abbrev pub AreNone : List (Option Tagged) → Type 0
AreNone others = Each (λ o. o ≡ None) others

none_at : (tags : List (Option Tagged)) (k : ℕ) → AreNone tags → tag_at tags k ≡ None
none_at [] k h = refl
none_at (o ∷ tags) zero h = h.0
none_at (o ∷ tags) (suc k) h = none_at tags k h.1

tag_append_none : (tags others : List (Option Tagged)) (k : ℕ) → AreNone others
    → tag_at (tags ++ others) k ≡ tag_at tags k
tag_append_none [] others k h = none_at others k h
tag_append_none (o ∷ tags) others zero h = refl
tag_append_none (o ∷ tags) others (suc k) h = tag_append_none tags others k h

pub flight_others :
    (tags others : List (Option Tagged)) (ps : List Pair) → AreNone others → flight (tags ++ others) ps ≡ flight tags ps
flight_others tags others [] h = refl
flight_others tags others (p ∷ ps) h =
    ap (λ o. before_flight o (flight (tags ++ others) ps)) (tag_append_none tags others p.sent h)
    ∙ ap (before_flight (tag_at tags p.sent)) (flight_others tags others ps h)

-- one frame more
one_past : (tags : List (Option Tagged)) (o : Option Tagged) → length (tags ++ o ∷ []) ≡ length tags + 1
one_past tags o = length-append tags (o ∷ [])

named_later : (n h s : ℕ) (ps : List Pair) → n < s → RiseFrom h s ps → is_named ps n ≡ false
named_later n h s [] less r = refl
named_later n h s (p ∷ ps) less r =
    let at = r.1 in
    let other : p.sent ≡ n → ⊥ = λ e. absurd (omega arith) in
    ap (λ b. b || is_named ps n) (ne_eqb p.sent n other)
    ∙ named_later n (p.heard + 1) (p.sent + 1) ps (omega arith) r.2

flight_more :
    (tags : List (Option Tagged)) (f : Tagged) (h s : ℕ) (ps : List Pair) → RiseFrom h s ps
    → flight (tags ++ Some f ∷ []) ps ≡ flight tags ps ++ kept_by (is_named ps (length tags)) f []
flight_more tags f h s [] r = refl
flight_more tags f h s (p ∷ ps) r = elim (cases_lt p.sent (length tags)) [
  | inl before ↦
      let other : p.sent ≡ length tags → ⊥ = λ e. absurd (omega arith) in
      let rest = flight_more tags f (p.heard + 1) (p.sent + 1) ps r.2 in
      let same : is_named (p ∷ ps) (length tags) ≡ is_named ps (length tags) =
      ap (λ b. b || is_named ps (length tags)) (ne_eqb p.sent (length tags) other) in
      ap (λ o. before_flight o (flight (tags ++ Some f ∷ []) ps))
      (get_or_append_left tags (Some f ∷ []) None p.sent before)
      ∙ ap (before_flight (tag_at tags p.sent)) rest
      ∙ before_append (tag_at tags p.sent) (flight tags ps) (kept_by (is_named ps (length tags)) f [])
      ∙ ap (λ b. flight tags (p ∷ ps) ++ kept_by b f []) (sym same)
  | inr not_before ↦ elim (cases_eq p.sent (length tags)) [
    | inl here ↦
        let past : length (tags ++ Some f ∷ []) ≤ p.sent + 1 = let n = one_past tags (Some f) in omega arith in
        let there : tag_at (tags ++ Some f ∷ []) p.sent ≡ Some f =
        ap (tag_at (tags ++ Some f ∷ [])) (here ∙ sym (plus_zero (length tags)))
        ∙ get_or-append-add tags (Some f ∷ []) 0 None in
        let named : is_named (p ∷ ps) (length tags) ≡ true =
        ap (λ b. b || is_named ps (length tags)) (eq-eqb p.sent (length tags) here) in
        let none : tag_at tags p.sent ≡ None = get_or_past tags p.sent None (omega arith) in
        ap (λ o. before_flight o (flight (tags ++ Some f ∷ []) ps)) there
        ∙ ap (λ fs. f ∷ fs) (flight_past (tags ++ Some f ∷ []) (p.heard + 1) (p.sent + 1) ps past r.2)
        ∙ sym (ap (λ b. flight tags (p ∷ ps) ++ kept_by b f []) named
        ∙ ap (λ o. before_flight o (flight tags ps) ++ f ∷ []) none
        ∙ ap (λ fs. fs ++ f ∷ []) (flight_past tags (p.heard + 1) (p.sent + 1) ps (omega arith) r.2))
    | inr after ↦
        let later : length tags < p.sent = omega arith in
        let size = one_past tags (Some f) in
        let all : RiseFrom h p.sent (p ∷ ps) = (r.0, omega arith, r.2) in
        flight_past (tags ++ Some f ∷ []) h p.sent (p ∷ ps) (omega arith) all
        ∙ sym (ap (λ b. flight tags (p ∷ ps) ++ kept_by b f []) (named_later (length tags) h p.sent (p ∷ ps) later all)
        ∙ append-nil (flight tags (p ∷ ps)) ∙ flight_past tags h p.sent (p ∷ ps) (omega arith) all)
  ]
]
  where
    plus_zero : (n : ℕ) → n + 0 ≡ n
    plus_zero n = omega arith

    before_append : (o : Option Tagged) (fs gs : List Tagged) → before_flight o (fs ++ gs) ≡ before_flight o fs ++ gs
    before_append None fs gs = refl
    before_append (Some g) fs gs = refl

-- the frames that an event sent and that joined the queue: those are in flight that are named
abbrev pub marks : List Pair → ℕ → ℕ → List Bool
marks pairs first zero = []
marks pairs first (suc count) = is_named pairs first ∷ marks pairs (first + 1) count

kept_cons : (b : Bool) (f : Tagged) (fs gs : List Tagged) → (fs ++ kept_by b f []) ++ gs ≡ fs ++ kept_by b f gs
kept_cons true f fs gs = append_assoc fs (f ∷ []) gs
kept_cons false f fs gs = ap (λ xs. xs ++ gs) (append-nil fs)

pub flight_own :
    (tags : List (Option Tagged)) (fs : List Tagged) (h s : ℕ) (ps : List Pair) → RiseFrom h s ps
    → flight (tags ++ map Some fs) ps ≡ flight tags ps ++ kept (marks ps (length tags) (length fs)) fs
flight_own tags [] h s ps r = ap (λ ts. flight ts ps) (append-nil tags) ∙ sym (append-nil (flight tags ps))
flight_own tags (f ∷ fs) h s ps r =
    ap (λ ts. flight ts ps) (sym (append_assoc tags (Some f ∷ []) (map Some fs)))
    ∙ flight_own (tags ++ Some f ∷ []) fs h s ps r
    ∙ ap (λ n. flight (tags ++ Some f ∷ []) ps ++ kept (marks ps n (length fs)) fs) (one_past tags (Some f))
    ∙ ap (λ xs. xs ++ kept (marks ps (length tags + 1) (length fs)) fs) (flight_more tags f h s ps r)
    ∙ kept_cons (is_named ps (length tags)) f (flight tags ps) (kept (marks ps (length tags + 1) (length fs)) fs)

-- marks stop with the frames that joined
pub kept_first :
    (ps : List Pair) (first : ℕ) (fs gs : List Tagged)
    → kept (marks ps first (length fs)) (fs ++ gs) ≡ kept (marks ps first (length fs)) fs
kept_first ps first [] gs = refl
kept_first ps first (f ∷ fs) gs =
    ap (kept_by (is_named ps first) f) (kept_first ps (first + 1) fs gs)

-- pairs that were heard before name nothing from a number on
pub named_rest :
    (done rest : List Pair) (bound number : ℕ) → Each (λ (p : Pair). p.sent < bound) done → bound ≤ number
    → is_named (done ++ rest) number ≡ is_named rest number
named_rest [] rest bound number h low = refl
named_rest (p ∷ done) rest bound number h low =
    let less : p.sent < bound = h.0 in
    let other : p.sent ≡ number → ⊥ = λ e. absurd (omega arith) in
    ap (λ b. b || is_named (done ++ rest) number) (ne_eqb p.sent number other)
    ∙ named_rest done rest bound number h.1 low

marks_rest :
    (done rest : List Pair) (bound first count : ℕ) → Each (λ (p : Pair). p.sent < bound) done → bound ≤ first
    → marks (done ++ rest) first count ≡ marks rest first count
marks_rest done rest bound first zero h low = refl
marks_rest done rest bound first (suc count) h low =
    ap (λ b. b ∷ marks (done ++ rest) (first + 1) count) (named_rest done rest bound first h low)
    ∙ ap (λ bs. is_named rest first ∷ bs) (marks_rest done rest bound (first + 1) count h (omega arith))

pub marks_as_map : (ps : List Pair) (first from count : ℕ)
    → map (λ k. is_named ps (first + k)) (range_with_len from count) ≡ marks ps (first + from) count
marks_as_map ps first from zero = refl
marks_as_map ps first from (suc count) =
    let next : first + (from + 1) ≡ first + from + 1 = omega arith in
    ap (λ bs. is_named ps (first + from) ∷ bs)
    (marks_as_map ps first (from + 1) count ∙ ap (λ n. marks ps n count) next)

pub marks_from_rest :
    (done rest : List Pair) (bound first count : ℕ) → Each (λ (p : Pair). p.sent < bound) done → bound ≤ first
    → marks_from (done ++ rest) first count ≡ marks rest first count
marks_from_rest done rest bound first count h low =
    let same : first + 0 ≡ first = omega arith in
    marks_as_map (done ++ rest) first 0 count ∙ ap (λ n. marks (done ++ rest) n count) same
    ∙ marks_rest done rest bound first count h low
