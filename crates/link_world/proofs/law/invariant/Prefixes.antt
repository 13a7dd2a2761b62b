-- A list that begins with another.
use Rattle.link_world.proofs.Common.{◌≡◌, ℕ, zero, suc, List, [], ◌∷◌, ◌++◌, length, slice_get, Some, refl, sym, ap}
use Rattle.link_world.proofs.Common.{◌∙◌, append_assoc, append-nil, none-some, Packet}
use Rattle.std.proofs.lemmas.Option.{same_Some}
use Rattle.link_world.proofs.law.reduced.Core.{IsPrefixOf}

pub prefix_same : {xs : List Packet} → IsPrefixOf xs xs
prefix_same {xs} = record { rest = []; is = sym (append-nil xs) }

pub prefix_none : {xs : List Packet} → IsPrefixOf [] xs
prefix_none {xs} = record { rest = xs; is = refl }

pub prefix_push : {xs : List Packet} (p : Packet) → IsPrefixOf xs (xs ++ p ∷ [])
prefix_push p = record { rest = p ∷ []; is = refl }

pub prefix_through : {xs ys zs : List Packet} → IsPrefixOf xs ys → IsPrefixOf ys zs → IsPrefixOf xs zs
prefix_through {xs} h k = record {
  rest = h.rest ++ k.rest;
  is = k.is ∙ ap (λ t. t ++ k.rest) h.is ∙ append_assoc xs h.rest k.rest;
}

get_front : (xs rest : List Packet) (n : ℕ) (p : Packet) → slice_get xs n ≡ Some p → slice_get (xs ++ rest) n ≡ Some p
get_front [] rest n p h = absurd (none-some p h)
get_front (x ∷ xs) rest zero p h = h
get_front (x ∷ xs) rest (suc n) p h = get_front xs rest n p h

-- what stands in the front stands in the whole
pub prefix_get :
    {xs ys : List Packet} (n : ℕ) (p : Packet) → IsPrefixOf xs ys → slice_get xs n ≡ Some p → slice_get ys n ≡ Some p
prefix_get {xs} n p h k = ap (λ t. slice_get t n) h.is ∙ get_front xs h.rest n p k

more_of :
    (xs rest : List Packet) (p : Packet) → slice_get (xs ++ rest) (length xs) ≡ Some p
    → IsPrefixOf (xs ++ p ∷ []) (xs ++ rest)
more_of [] [] p h = absurd (none-some p h)
more_of [] (y ∷ rest) p h = record { rest = rest; is = ap (λ q. q ∷ rest) (same_Some y p h) }
more_of (x ∷ xs) rest p h = let k = more_of xs rest p h in record { rest = k.rest; is = ap (λ t. x ∷ t) k.is }

-- the front grows by what follows it
pub prefix_more :
    {xs ys : List Packet} (p : Packet) → IsPrefixOf xs ys → slice_get ys (length xs) ≡ Some p
    → IsPrefixOf (xs ++ p ∷ []) ys
prefix_more {xs} p h k =
    let m = more_of xs h.rest p (ap (λ t. slice_get t (length xs)) (sym h.is) ∙ k) in
    record { rest = m.rest; is = h.is ∙ m.is }
