-- The 16-bit frame check sequence (ISO/IEC 3309, AX.25 2.2 section 3.7): a division of polynomials
-- over two elements. A list of bits is a polynomial by its coefficients, that of the highest power first.
use Rattle.std.specs.Prelude.{ℕ, zero, suc, ◌-◌, Bool, true, false, not, List, [], ◌∷◌, ◌++◌, map, length, take, drop}
use Rattle.std.specs.Prelude.{replicate}
use Rattle.hdlc_framer.specs.BitOrder.{sent_bits, number_of}

-- the sum of two coefficients
abbrev pub plus : Bool → Bool → Bool
plus false b = b
plus true b = not b

-- a polynomial with another one added to its first coefficients
abbrev pub add_front : List Bool → List Bool → List Bool
add_front [] p = p
add_front (a ∷ q) [] = []
add_front (a ∷ q) (b ∷ p) = plus a b ∷ add_front q p

-- what follows the highest power of the generator x^16 + x^12 + x^5 + 1: its coefficients of x^15 down to 1
abbrev pub generator_rest : List Bool
generator_rest =
    false ∷ false ∷ false ∷ true ∷ false ∷ false ∷ false ∷ false ∷ false ∷ false ∷ true ∷ false ∷ false ∷ false ∷ false
    ∷ true ∷ []

-- Long division: each step takes the highest power away, and if its coefficient is 1 the generator is added.
abbrev pub divide : ℕ → List Bool → List Bool
divide zero p = p
divide (suc steps) [] = []
divide (suc steps) (false ∷ p) = divide steps p
divide (suc steps) (true ∷ p) = divide steps (add_front generator_rest p)

-- the remainder of a division by the generator, which has 16 coefficients
abbrev pub remainder : List Bool → List Bool
remainder p = divide (length p - 16) p

-- the first 16 bits inverted
abbrev pub invert_front : List Bool → List Bool
invert_front p = map not (take 16 p) ++ drop 16 p

-- The frame check sequence of octets: 16 zeros follow their bits, the first 16 bits are inverted, the remainder is
-- taken and inverted. Its bit i is the coefficient of x^(15 - i).
unfoldable pub fcs_of : List ℕ → ℕ
fcs_of octets = number_of (map not (remainder (invert_front (sent_bits octets ++ replicate 16 false))))
