-- Places in a file, as a fault names them in 64 bits.
use Rattle.std.specs.Prelude.{ℕ, ◌-◌, ◌^◌, min}

-- the place of an octet, counted from 0; places past the greatest number of 64 bits are named by that number
abbrev pub told_place : ℕ → ℕ
told_place place = min place (2 ^ 64 - 1)
