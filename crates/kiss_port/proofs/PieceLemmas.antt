-- The pieces of a stream at a FEND and before it.
use Rattle.std.proofs.Common.{◌≡◌, ◌≢◌, ℕ, List, [], ◌∷◌, ◌++◌, refl, ap, ◌∙◌}
use Rattle.std.specs.List.{AllByRecursion}
use Rattle.std.proofs.lemmas.Bool.{cond-false, ne_eqb}
use Rattle.kiss_port.specs.Escapes.{fend}
use Rattle.kiss_port.specs.Pieces.{pieces, onto_first}

-- no FEND among these octets
abbrev pub IsInside : List ℕ → Type 0
IsInside octets = AllByRecursion (λ octet. octet ≢ fend) octets

step : (octet : ℕ) (stream : List ℕ) → octet ≢ fend → pieces (octet ∷ stream) ≡ onto_first octet (pieces stream)
step octet stream other = cond-false _ _ _ (ne_eqb octet fend other)

-- before a FEND nothing ends
pub pieces_inside : (piece : List ℕ) → IsInside piece → pieces piece ≡ []
pieces_inside [] inside = refl
pieces_inside (octet ∷ piece) inside = step octet piece inside.0 ∙ ap (onto_first octet) (pieces_inside piece inside.1)

-- the FEND ends what stands before it
pub pieces_end : (piece more : List ℕ) → IsInside piece → pieces (piece ++ fend ∷ more) ≡ piece ∷ pieces more
pieces_end [] more inside = refl
pieces_end (octet ∷ piece) more inside = step octet (piece ++ fend ∷ more) inside.0
    ∙ ap (onto_first octet) (pieces_end piece more inside.1)

pub inside-append : (before following : List ℕ) → IsInside before → IsInside following → IsInside (before ++ following)
inside-append [] following first second = second
inside-append (octet ∷ before) following first second = (first.0, inside-append before following first.1 second)
