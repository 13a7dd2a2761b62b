-- A list of octets as a polynomial by its coefficients, that of the highest power first.
use Rattle.std.specs.Prelude.{◌≡◌, ℕ, ◌+◌, ◌*◌, ◌<◌, ◌≤◌, List, [], ◌∷◌, length, bit_xor}
use Rattle.reed_solomon.specs.Field.{times_power}

-- its value at power(j): an octet with k others after it stands at the k-th power
unfoldable pub value_at : ℕ → List ℕ → ℕ
value_at j [] = 0
value_at j (x ∷ xs) = bit_xor (times_power (j * length xs) x) (value_at j xs)

-- its values at power(first) and the powers that follow, `count` in all, are 0
abbrev pub Vanishes : ℕ → ℕ → List ℕ → Type 0
Vanishes first count p = (j : ℕ) → first ≤ j → j < first + count → value_at j p ≡ 0
