-- The repeaters of a path alone: the fields from the third on.
use Rattle.std.specs.Prelude.{◌≡◌, ℕ, ◌+◌, ◌*◌, ◌<◌, ◌≤◌, ◌==◌, List, length, slice_index_or}
use Rattle.ax25_address.specs.AddressField.{IsField}
use Rattle.ax25_address.specs.FramePath.{field_at}
use Rattle.ax25_address.specs.declared.path.Hop.{Hop}

-- the octets up to `len` end with these repeaters, of which the last one alone has the end bit
pub record AreRepeaters (hops : List Hop) (len : ℕ) (octets : List ℕ) : Type 0 where
  pub some : 0 < length hops
  pub count : length hops ≤ 8
  pub size : len ≡ 14 + 7 * length hops
  pub whole : len ≤ length octets
  pub fields : (k : ℕ) (d : Hop) → k < length hops → let hop = slice_index_or hops k d in
      IsField hop.call hop.done (k + 1 == length hops) (field_at octets (k + 2))
