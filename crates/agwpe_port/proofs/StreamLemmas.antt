-- A stream as its octets come.
use Rattle.std.specs.Prelude.{◌≡◌, ℕ, ◌+◌, ◌<◌, List, [], ◌∷◌, ◌++◌, length, take, drop, refl}
use Rattle.std.proofs.Common.{sym, ◌∙◌, ap, get_or, append_assoc}
use Rattle.std.proofs.lemmas.List.{take_more, drop_at}

-- the stream with one octet more
pub one_more : (stream octets : List ℕ) (i : ℕ) → i < length octets
    → (stream ++ take i octets) ++ get_or octets i 0 ∷ [] ≡ stream ++ take (i + 1) octets
one_more stream octets i within = append_assoc stream (take i octets) (get_or octets i 0 ∷ [])
    ∙ ap (λ xs. stream ++ xs) (sym (take_more octets i 0 within))

-- what stands after a list in a longer one
pub following : {A : Type 0} (whole before items : List A) → whole ≡ before ++ items → items ≡ drop (length before) whole
following whole before items is = sym (ap (λ xs. drop (length before) xs) is ∙ drop_at before items (length before) refl)
