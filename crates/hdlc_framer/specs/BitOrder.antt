-- The order in which bits are sent: the least significant bit of each octet first
-- (AX.25 2.2 section 3.8, ISO/IEC 3309).
use Rattle.std.specs.Prelude.{ℕ, zero, suc, ◌+◌, ◌*◌, ◌/◌, ◌%◌, ◌==◌, Bool, true, false, List, [], ◌∷◌}
use Rattle.std.specs.List.{flat_map}

-- as many of the lowest bits of a number as are asked for, the least significant first
abbrev pub low_bits : ℕ → ℕ → List Bool
low_bits zero n = []
low_bits (suc count) n = (n % 2 == 1) ∷ low_bits count (n / 2)

-- the bits of an octet in sending order
unfoldable pub octet_bits : ℕ → List Bool
octet_bits octet = low_bits 8 octet

-- the bits of octets that are sent one after another
abbrev pub sent_bits : List ℕ → List Bool
sent_bits octets = flat_map octet_bits octets

-- the number whose bits these are, the least significant first
abbrev pub number_of : List Bool → ℕ
number_of [] = 0
number_of (false ∷ bits) = 2 * number_of bits
number_of (true ∷ bits) = 2 * number_of bits + 1
