-- How many readers of the ring a receiver wants: one for each of the eight lanes, and one that all added lanes share.
use Rattle.std.specs.Prelude.{ℕ, Bool, true, false}

abbrev pub readers_wanted : Bool → ℕ
readers_wanted false = 8
readers_wanted true = 9
