-- A search from the back of a list in order for an item that is repeated.
use Rattle.frame_merge.proofs.Common.{◌≡◌, ◌+◌, ◌-◌, ◌<◌, List, [], ◌∷◌, ◌++◌, false, ◌||◌, ◌&&◌, length, get_or, ap}
use Rattle.frame_merge.proofs.Common.{◌∙◌, arith, refl, list_any, IsNonDecreasingBy, bytes_eq, and-false, lt-leb}
use Rattle.frame_merge.proofs.Common.{get_or_append_left, list_any-append, list_any_none, Candidate, repeats}
use Rattle.std.proofs.Math.Bool.{or-false}
use Rattle.std.proofs.lemmas.List.{get_or_push}

-- what the search has passed holds no repeated item, and what is left is in order
pub record Searched (item : Candidate) (earlier rest : List Candidate) : Type 0 where
  pub same : list_any (repeats item) earlier ≡ list_any (repeats item) rest
  pub rising : IsNonDecreasingBy (λ y. y.end) rest

-- if the last that is left ends too early, none that is left is repeated
pub too_early : (item : Candidate) (earlier rest before : List Candidate) (last : Candidate)
    → Searched item earlier rest → rest ≡ before ++ last ∷ [] → length before + 1 ≡ length rest
    → last.end < item.end - 15
    → list_any (repeats item) earlier ≡ false
too_early item earlier rest before last h is count early =
    h.same ∙ list_any_none (repeats item) rest (λ k d kl.
    let order = h.rising k (length before) d (omega arith) (omega arith) in
    let at_last : get_or rest (length before) d ≡ last = ap (λ t. get_or t (length before) d) is
    ∙ get_or_push before last d (length before) refl in
    let ends : (get_or rest (length before) d).end ≡ last.end = ap (λ t. t.end) at_last in
    ap (λ t. bytes_eq (get_or rest k d).octets item.octets && t)
    (lt-leb item.end ((get_or rest k d).end + 15) (omega arith))
    ∙ and-false (bytes_eq (get_or rest k d).octets item.octets))

-- if the last that is left is not repeated, the search goes on before it
pub search_on : (item : Candidate) (earlier rest before : List Candidate) (last : Candidate)
    → Searched item earlier rest → rest ≡ before ++ last ∷ [] → length before + 1 ≡ length rest
    → repeats item last ≡ false
    → Searched item earlier before
search_on item earlier rest before last h is count other = record {
  same = h.same ∙ ap (list_any (repeats item)) is ∙ list_any-append (repeats item) before (last ∷ [])
      ∙ ap (λ t. list_any (repeats item) before || (t || false)) other ∙ or-false (list_any (repeats item) before);
  rising = λ i j d ij jl.
      let order = h.rising i j d ij (omega arith) in
      let at_i : (get_or rest i d).end ≡ (get_or before i d).end = ap (λ t. (get_or t i d).end) is
      ∙ ap (λ t. t.end) (get_or_append_left before (last ∷ []) d i (omega arith)) in
      let at_j : (get_or rest j d).end ≡ (get_or before j d).end = ap (λ t. (get_or t j d).end) is
      ∙ ap (λ t. t.end) (get_or_append_left before (last ∷ []) d j jl) in
      omega arith;
}
