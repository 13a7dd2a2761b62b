-- A set of ids, as ranges.
use Rattle.std.specs.Prelude.{ℕ, nat_le, ◌&&◌, Bool, List}
use Rattle.std.specs.List.{list_any}
use Rattle.host_ports.specs.declared.id_range.IdRange.{IdRange}

abbrev pub is_in_range : ℕ → IdRange → Bool
is_in_range id range = nat_le range.first id && nat_le id range.last

abbrev pub is_within : ℕ → List IdRange → Bool
is_within id ranges = list_any (is_in_range id) ranges
