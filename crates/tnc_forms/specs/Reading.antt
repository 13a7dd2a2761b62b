-- How much input a command takes.
use Rattle.std.specs.Prelude.{ℕ, ◌^◌}

-- the most octets of an input
abbrev pub input_limit : ℕ
input_limit = 2 ^ 40

-- the most octets that are read at once
abbrev pub piece_limit : ℕ
piece_limit = 4096
