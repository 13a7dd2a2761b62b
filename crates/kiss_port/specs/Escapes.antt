-- Escapes (Chepponis and Karn, "The KISS TNC", 1987): two octets stand for a FEND or a FESC.
use Rattle.std.specs.Prelude.{ℕ, ◌==◌, if◌then◌else◌, List, [], ◌∷◌, ◌++◌}
use Rattle.std.specs.List.{flat_map}

abbrev pub fend : ℕ
fend = 0xc0

abbrev pub fesc : ℕ
fesc = 0xdb

abbrev pub tfend : ℕ
tfend = 0xdc

abbrev pub tfesc : ℕ
tfesc = 0xdd

-- what FESC and an octet stand for; before another octet both are dropped
abbrev pub meant : ℕ → List ℕ
meant octet = if octet == tfend then fend ∷ [] else if octet == tfesc then fesc ∷ [] else []

-- What a piece of the stream stands for. A FESC at its end is dropped.
abbrev pub unescaped : List ℕ → List ℕ
unescaped [] = []
unescaped (octet ∷ []) = if octet == fesc then [] else octet ∷ []
unescaped (octet ∷ next ∷ piece) = if octet == fesc then meant next ++ unescaped piece
    else octet ∷ unescaped (next ∷ piece)

-- an octet as it is written
abbrev pub escape_of : ℕ → List ℕ
escape_of octet = if octet == fend then fesc ∷ tfend ∷ [] else if octet == fesc then fesc ∷ tfesc ∷ [] else octet ∷ []

-- octets as they are written
abbrev pub spelled : List ℕ → List ℕ
spelled octets = flat_map escape_of octets
