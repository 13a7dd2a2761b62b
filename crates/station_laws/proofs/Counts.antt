-- How many frames of a kind are in flight: as many at most as are among those that were queued from a number on.
use Rattle.station_laws.proofs.Common.{◌≡◌, ℕ, ◌+◌, ◌-◌, ◌≤◌, Bool, true, false, List, [], ◌∷◌, ◌++◌, length, map, take}
use Rattle.station_laws.proofs.Common.{drop, cond, get_or, Option, Some, None, refl, sym, ap, ◌∙◌, subst, arith, inl}
use Rattle.station_laws.proofs.Common.{inr, count_by, list_any, cases_lt, or_parts, drop-drop, get_or_past, Callsign}
use Rattle.station_laws.proofs.Common.{kept, Tagged, Pair, LinkFrame}
use Rattle.std.proofs.lemmas.List.Sums.{sum_by-cons, sum_by-append, sum_by-drop_more, sum_by-take-drop}
use Rattle.station_laws.proofs.Flights.{RiseFrom, before_flight, tag_at, flight}
use Rattle.station_laws.proofs.Runs.{nothing, tag_of}
use Rattle.station_laws.proofs.Tags.{IsTagged, IsTag, AreTags, tags_length}

-- ---- counts

abbrev pub one : Bool → ℕ
one b = cond b 1 0

pub count_cons : {A : Type 0} (p : A → Bool) (x : A) (xs : List A) → count_by p (x ∷ xs) ≡ one (p x) + count_by p xs
count_cons p x xs = sum_by-cons (λ y. cond (p y) 1 0) x xs

pub count_append : {A : Type 0} (p : A → Bool) (xs ys : List A) → count_by p (xs ++ ys) ≡ count_by p xs + count_by p ys
count_append p xs ys = sum_by-append (λ y. cond (p y) 1 0) xs ys

pub count_drop : {A : Type 0} (p : A → Bool) (n : ℕ) (xs : List A) → count_by p (drop n xs) ≤ count_by p xs
count_drop p n xs = let both = sum_by-take-drop (λ y. cond (p y) 1 0) xs n in omega arith

pub count_take : {A : Type 0} (p : A → Bool) (n : ℕ) (xs : List A)
    → count_by p (take n xs) + count_by p (drop n xs) ≡ count_by p xs
count_take p n xs = sum_by-take-drop (λ y. cond (p y) 1 0) xs n

-- from a later place on there are no more
pub count_later :
    {A : Type 0} (p : A → Bool) (k m : ℕ) (xs : List A) → k ≤ m → count_by p (drop m xs) ≤ count_by p (drop k xs)
count_later p k m xs low =
    let n : k + (m - k) ≡ m = omega arith in
    let same : drop (m - k) (drop k xs) ≡ drop m xs = drop-drop (m - k) k xs ∙ ap (λ i. drop i xs) n in
    subst (λ ys. count_by p ys ≤ count_by p (drop k xs)) same (count_drop p (m - k) (drop k xs))

pub count_none : {A : Type 0} (p : A → Bool) (xs : List A) → list_any p xs ≡ false → count_by p xs ≡ 0
count_none p [] none = refl
count_none p (x ∷ xs) none =
    let parts = or_parts (p x) (list_any p xs) none in
    let sum = count_cons p x xs in
    let first : one (p x) ≡ 0 = ap one parts.0 in
    let rest = count_none p xs parts.1 in
    omega arith

pub count_map : {A : Type 0} (p : A → Bool) (xs : List A) → count_by (λ (b : Bool). b) (map p xs) ≡ count_by p xs
count_map p [] = refl
count_map p (x ∷ xs) =
    count_cons (λ (b : Bool). b) (p x) (map p xs) ∙ ap (λ n. one (p x) + n) (count_map p xs) ∙ sym (count_cons p x xs)

pub one_less : (a b : Bool) → (a ≡ true → b ≡ true) → one a ≤ one b
one_less false b h = omega arith
one_less true b h = let is : one b ≡ 1 = ap one (h refl) in omega arith

-- what is kept of the first frames
pub count_kept :
    (p : Tagged → Bool) (ms : List Bool) (fs : List Tagged) → count_by p (kept ms fs) ≤ count_by p (take (length ms) fs)
count_kept p [] fs = omega arith
count_kept p (m ∷ ms) [] = omega arith
count_kept p (true ∷ ms) (f ∷ fs) =
    let a = count_cons p f (kept ms fs) in
    let b = count_cons p f (take (length ms) fs) in
    let rest = count_kept p ms fs in
    omega arith
count_kept p (false ∷ ms) (f ∷ fs) =
    let b = count_cons p f (take (length ms) fs) in
    let rest = count_kept p ms fs in
    omega arith

-- ---- in flight

-- what a frame in flight is, the frame that was queued is
abbrev pub Tells : Callsign → Callsign → (Tagged → Bool) → (LinkFrame → Bool) → Type 0
Tells l r t u = (f : Tagged) (q : LinkFrame) → IsTagged l r f q → t f ≡ true → u q ≡ true

one_tag :
    (l r : Callsign) (t : Tagged → Bool) (u : LinkFrame → Bool) → Tells l r t u → (o : Option Tagged) (q : LinkFrame)
    (fs : List Tagged) → IsTag l r o q → count_by t (before_flight o fs) ≤ one (u q) + count_by t fs
one_tag l r t u tells None q fs tag = omega arith
one_tag l r t u tells (Some f) q fs tag =
    let a = count_cons t f fs in
    let b = one_less (t f) (u q) (tells f q tag) in
    omega arith

pub flight_count :
    (l r : Callsign) (t : Tagged → Bool) (u : LinkFrame → Bool) → Tells l r t u → (tags : List (Option Tagged))
    (queue : List LinkFrame) → AreTags l r tags queue → (h s : ℕ) (ps : List Pair) → RiseFrom h s ps
    → count_by t (flight tags ps) ≤ count_by u (drop s queue)
flight_count l r t u tells tags queue tagged h s [] rises = omega arith
flight_count l r t u tells tags queue tagged h s (p ∷ ps) rises =
    let low = rises.1 in
    let rest = flight_count l r t u tells tags queue tagged (p.heard + 1) (p.sent + 1) ps rises.2 in
    elim (cases_lt p.sent (length queue)) [
      | inl within ↦
          let tag = tag_of l r tags queue p.sent tagged within in
          let cell : count_by u (drop p.sent queue) ≡ one (u (get_or queue p.sent nothing)) + count_by u
          (drop (p.sent + 1) queue) =
          sum_by-drop_more (λ y. cond (u y) 1 0) queue p.sent nothing within in
          let later = count_later u s p.sent queue low in
          let here = one_tag l r t u tells (tag_at tags p.sent) (get_or queue p.sent nothing) (flight tags ps) tag in
          omega arith
      | inr past ↦
          let size = tags_length l r tags queue tagged in
          let none : tag_at tags p.sent ≡ None = get_or_past tags p.sent None (omega arith) in
          let same : count_by t (before_flight (tag_at tags p.sent) (flight tags ps)) ≡ count_by t (flight tags ps) =
          ap (λ o. count_by t (before_flight o (flight tags ps))) none in
          let later = count_later u s (p.sent + 1) queue (omega arith) in
          omega arith
    ]
