-- What waits to be sent to a connection: the pieces that were appended, in order, the front one without the octets of
-- it that are sent.
use Rattle.std.specs.Prelude.{ℕ, List, [], ◌∷◌, ◌++◌, take, drop}

-- the most octets that wait for one connection
abbrev pub most_octets : ℕ
most_octets = 262144

-- all octets that wait, in order
abbrev pub octets_of : List (List ℕ) → List ℕ
octets_of [] = []
octets_of (piece ∷ pieces) = piece ++ octets_of pieces

-- what waits after a piece is appended; one without octets asks for nothing
abbrev pub with_piece : List ℕ → List (List ℕ) → List (List ℕ)
with_piece [] pieces = pieces
with_piece (octet ∷ octets) pieces = pieces ++ (octet ∷ octets) ∷ []

-- the rest of the front piece
abbrev pub front_of : List (List ℕ) → List ℕ
front_of [] = []
front_of (piece ∷ pieces) = piece

-- what waits after a piece of which this rest is left
abbrev pub following : List ℕ → List (List ℕ) → List (List ℕ)
following [] pieces = pieces
following (octet ∷ octets) pieces = (octet ∷ octets) ∷ pieces

-- what waits after so many octets of the front piece are sent
abbrev pub after_sending : ℕ → List (List ℕ) → List (List ℕ)
after_sending count [] = []
after_sending count (piece ∷ pieces) = following (drop count piece) pieces

-- ---- as the code keeps it

-- octets cut into pieces of these lengths
abbrev pub cut : List ℕ → List ℕ → List (List ℕ)
cut [] octets = []
cut (len ∷ lens) octets = take len octets ∷ cut lens (drop len octets)
