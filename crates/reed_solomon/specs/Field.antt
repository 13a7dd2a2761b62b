-- The field of 256 elements that FX.25 and IL2P use: octets as polynomials over two elements, by
-- x^8 + x^4 + x^3 + x^2 + 1. The sum of two octets is their exclusive or.
use Rattle.std.specs.Prelude.{ℕ, zero, suc, ◌-◌, ◌*◌, nat_lt, if◌then◌else◌, bit_xor}

-- an octet times x, the element 2
unfoldable pub double : ℕ → ℕ
double a = if nat_lt a 128 then 2 * a else bit_xor (2 * a - 256) 29

-- an octet times power(i), the i-th power of 2: it is doubled i times
unfoldable pub times_power : ℕ → ℕ → ℕ
times_power zero a = a
times_power (suc i) a = double (times_power i a)

-- power(i)
abbrev pub power : ℕ → ℕ
power i = times_power i 1
