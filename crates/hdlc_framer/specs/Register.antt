-- The register of a check sequence, as a number: the coefficient of the highest power is its lowest bit. No public
-- clause cites it.
use Rattle.std.specs.Prelude.{ℕ, ◌/◌, ◌%◌, ◌==◌, Bool, true, false, if◌then◌else◌, bit_xor}
use Rattle.std.specs.List.{fold}
use Rattle.hdlc_framer.specs.BitOrder.{octet_bits}

-- the lower powers of the generator
abbrev pub generator_number : ℕ
generator_number = 0x8408

-- one step of the division
unfoldable pub shifted : ℕ → ℕ
shifted check = bit_xor (check / 2) (if check % 2 == 1 then generator_number else 0)

-- eight of them
unfoldable pub step_of : ℕ → ℕ
step_of check = shifted (shifted (shifted (shifted (shifted (shifted (shifted (shifted check)))))))

-- a bit as a number
abbrev pub bit_number : Bool → ℕ
bit_number false = 0
bit_number true = 1

-- a step that takes a bit
unfoldable pub after_bit : ℕ → Bool → ℕ
after_bit check bit = shifted (bit_xor check (bit_number bit))

-- eight of them
unfoldable pub after_octet : ℕ → ℕ → ℕ
after_octet check octet = fold after_bit check (octet_bits octet)
