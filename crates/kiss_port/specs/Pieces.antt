-- The pieces of a stream (Chepponis and Karn, "The KISS TNC", 1987).
use Rattle.std.specs.Prelude.{ℕ, ◌==◌, if◌then◌else◌, List, [], ◌∷◌}
use Rattle.kiss_port.specs.Escapes.{fend}

-- an octet before the first piece, which it then begins
abbrev pub onto_first : ℕ → List (List ℕ) → List (List ℕ)
onto_first octet [] = []
onto_first octet (piece ∷ others) = (octet ∷ piece) ∷ others

-- The stream is cut at each FEND. These are the pieces that a FEND ends; what stands after the last FEND is no piece
-- yet.
abbrev pub pieces : List ℕ → List (List ℕ)
pieces [] = []
pieces (octet ∷ stream) = if octet == fend then [] ∷ pieces stream else onto_first octet (pieces stream)
