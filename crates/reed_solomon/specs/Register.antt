-- The register of the check octets, by which they are made octet by octet. They are the only ones that make a codeword of the data.
use Rattle.std.specs.Prelude.{ℕ, zero, suc, ◌+◌, List, [], ◌∷◌, ◌++◌, map, drop, slice_index, bit_xor}
use Rattle.reed_solomon.specs.declared.code.Code.{Code}
use Rattle.reed_solomon.specs.declared.code.Zeros.{Zeros}
use Rattle.reed_solomon.specs.declared.code.Zeros.TheVariants.{Leading, Between}
use Rattle.reed_solomon.specs.Codeword.{whole_of}
use Rattle.reed_solomon.specs.Field.{power}
use Rattle.reed_solomon.specs.Values.{Vanishes}
use Rattle.reed_solomon.specs.Product.{product}

-- lists of one length added place by place
abbrev pub added : List ℕ → List ℕ → List ℕ
added [] ys = []
added (x ∷ xs) [] = []
added (x ∷ xs) (y ∷ ys) = bit_xor x y ∷ added xs ys

-- a polynomial whose highest coefficient is 1, by the others, times the sum of x and a root
unfoldable pub with_root : ℕ → List ℕ → List ℕ
with_root root rest = added (rest ++ 0 ∷ []) (map (product root) (1 ∷ rest))

-- the polynomial that has so many roots, by its coefficients but the highest, which is 1
unfoldable pub generator_of : ℕ → ℕ → List ℕ
generator_of first zero = []
generator_of first (suc n) = with_root (power (first + n)) (generator_of first n)

-- the register after one octet more
unfoldable pub taken : List ℕ → List ℕ → ℕ → List ℕ
taken generator register octet =
    added (drop 1 register ++ 0 ∷ []) (map (product (bit_xor octet (slice_index register 0))) generator)

-- how many of so many zeros stand after the data octets
abbrev pub zeros_after : Zeros → ℕ → ℕ
zeros_after Leading n = 0
zeros_after Between n = n

-- how many of them stand before the data octets
abbrev pub zeros_before : Zeros → ℕ → ℕ
zeros_before Leading n = n
zeros_before Between n = 0

-- data and check octets of a code as a word of 255 octets
abbrev pub whole : Code → List ℕ → List ℕ → List ℕ
whole code octets check = whole_of code.zeros code.check_count octets check

-- data and check octets that are a codeword
abbrev pub ChecksOf : Code → List ℕ → List ℕ → Type 0
ChecksOf code octets check = Vanishes code.first_root code.check_count (whole code octets check)
