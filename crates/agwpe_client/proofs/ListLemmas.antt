-- Lists that a loop joins piece by piece.
use Rattle.agwpe_client.proofs.Common.{◌≡◌, ℕ, ◌+◌, ◌-◌, min, List, [], ◌∷◌, ◌++◌, length, take, drop, ap, ◌∙◌, sym}
use Rattle.agwpe_client.proofs.Common.{arith, append-nil, flat_map, range_with_len}
use Rattle.std.proofs.Common.{◌<◌, get_or, map-id, zero-add}
use Rattle.std.proofs.lemmas.Grind.{flat_map-append}
use Rattle.std.proofs.lemmas.List.{length-drop, take_all, take_min, take_more}
use Rattle.std.proofs.lemmas.List.FromFn.{map-range_with_len_more}

-- with what the next element gives
pub flat_map_more : {X : Type 0} (f : X → List ℕ) (xs : List X) (i : ℕ) (x : X) → i < length xs
    → x ≡ get_or xs i x → flat_map f (take (i + 1) xs) ≡ flat_map f (take i xs) ++ f x
flat_map_more f xs i x within is =
    ap (flat_map f) (take_more xs i x within ∙ ap (λ y. take i xs ++ y ∷ []) (sym is))
    ∙ flat_map-append f (take i xs) (x ∷ []) ∙ ap (λ ys. flat_map f (take i xs) ++ ys) (append-nil (f x))

range_more : (n : ℕ) → range_with_len 0 (n + 1) ≡ range_with_len 0 n ++ n ∷ []
range_more n =
    sym (map-id (range_with_len 0 (n + 1))) ∙ map-range_with_len_more (λ x. x) 0 n n (zero-add n)
    ∙ ap (λ xs. xs ++ n ∷ []) (map-id (range_with_len 0 n))

-- with what the next number gives
pub flat_map_range_more : (f : ℕ → List ℕ) (n : ℕ)
    → flat_map f (range_with_len 0 (n + 1)) ≡ flat_map f (range_with_len 0 n) ++ f n
flat_map_range_more f n =
    ap (flat_map f) (range_more n) ∙ flat_map-append f (range_with_len 0 n) (n ∷ [])
    ∙ ap (λ ys. flat_map f (range_with_len 0 n) ++ ys) (append-nil (f n))

-- the first 256 octets of the rest
pub first_of_rest : (octets : List ℕ) (from len : ℕ) → len ≡ min (length octets - from) 256
    → take len (take (length octets - from) (drop from octets)) ≡ take 256 (drop from octets)
first_of_rest octets from len is =
    let size : length (drop from octets) ≡ length octets - from = length-drop from octets in
    let shorter : len ≡ min 256 (length (drop from octets)) = omega (arith, is, size) in
    ap (take len) (take_all (length octets - from) (drop from octets) (omega (arith, size)))
    ∙ ap (λ n. take n (drop from octets)) shorter
    ∙ take_min 256 (drop from octets)
