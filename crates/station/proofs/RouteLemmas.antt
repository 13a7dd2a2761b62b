-- The calls of a list of repeaters, one after another.
use Rattle.station.proofs.Common.{◌≡◌, ℕ, suc, ◌+◌, ◌-◌, ◌*◌, ◌<◌, List, [], ◌∷◌, ◌++◌, take, drop, Option, Some, None}
use Rattle.station.proofs.Common.{refl, sym, ◌∙◌, ap, arith, append_assoc, drop-drop, Callsign, call_in, calls_in}
use Rattle.station.specs.Routes.{before_calls}

-- calls that are read, before what the rest gives
abbrev pub before_rest : List Callsign → Option (List Callsign) → Option (List Callsign)
before_rest calls None = None
before_rest calls (Some rest) = Some (calls ++ rest)

before_rest-more : (calls : List Callsign) (call : Callsign) (rest : Option (List Callsign))
    → before_rest calls (before_calls (Some call) rest) ≡ before_rest (calls ++ call ∷ []) rest
before_rest-more calls call None = refl
before_rest-more calls call (Some rest) = ap Some (sym (append_assoc calls (call ∷ []) rest))

-- the next call of the list
calls_in-next : (count k : ℕ) (octets : List ℕ) → k < count
    → calls_in (count - k) (drop (10 * k) octets) ≡ before_calls (call_in (take 10 (drop (10 * k) octets)))
    (calls_in (count - (k + 1)) (drop (10 * (k + 1)) octets))
calls_in-next count k octets less =
    let size : count - k ≡ suc (count - (k + 1)) = omega arith in
    let place : 10 * k + 10 ≡ 10 * (k + 1) = omega arith in
    ap (λ n. calls_in n (drop (10 * k) octets)) size
    ∙ ap (λ xs. before_calls (call_in (take 10 (drop (10 * k) octets))) (calls_in (count - (k + 1)) xs))
    (drop-drop 10 (10 * k) octets ∙ ap (λ n. drop n octets) place)

pub calls_more : (count k : ℕ) (octets field : List ℕ) (calls : List Callsign) (call : Callsign) → k < count
    → field ≡ take 10 (drop (10 * k) octets) → call_in field ≡ Some call
    → calls_in count octets ≡ before_rest calls (calls_in (count - k) (drop (10 * k) octets))
    → calls_in count octets ≡ before_rest (calls ++ call ∷ [])
    (calls_in (count - (k + 1)) (drop (10 * (k + 1)) octets))
calls_more count k octets field calls call less is found so_far =
    let rest = calls_in (count - (k + 1)) (drop (10 * (k + 1)) octets) in
    so_far ∙ ap (before_rest calls) (calls_in-next count k octets less
    ∙ ap (λ c. before_calls c rest) (ap call_in (sym is) ∙ found))
    ∙ before_rest-more calls call rest
