-- FNV-1a in 64 bits, after Fowler, Noll and Vo (draft-eastlake-fnv).
use Rattle.std.specs.Prelude.{ℕ, ◌*◌, ◌%◌, ◌^◌, List, fold, bit_xor}

-- the hash of no octet
abbrev pub offset_basis : ℕ
offset_basis = 0xcbf29ce484222325

abbrev pub prime : ℕ
prime = 0x100000001b3

-- a hash with one more octet: exclusive or, then times the prime, modulo 2^64
unfoldable pub mixed : ℕ → ℕ → ℕ
mixed hash octet = (bit_xor hash octet * prime) % 2 ^ 64

-- the hash of a list of octets
unfoldable pub fnv_1a : List ℕ → ℕ
fnv_1a octets = fold mixed offset_basis octets
