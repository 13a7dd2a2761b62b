-- How a frame is written as text: its octets in lower-case hexadecimal on a line.
use Rattle.std.specs.Prelude.{ℕ, List, [], ◌∷◌, ◌++◌}
use Rattle.hex.specs.Hex.{encode_lower}

-- a frame's line, with the line feed that ends it
unfoldable pub printed_line : List ℕ → List ℕ
printed_line octets = encode_lower octets ++ 10 ∷ []
