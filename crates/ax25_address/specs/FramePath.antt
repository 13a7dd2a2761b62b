-- A path in octets, after AX.25 2.2 section 3.12: destination, source and, as this project has it, up to eight
-- repeaters. The end bit stands on the last field alone, the C bits of the first two tell the role, and each H bit
-- whether that repeater has repeated the frame.
use Rattle.std.specs.Prelude.{◌≡◌, ℕ, ◌+◌, ◌*◌, ◌<◌, ◌≤◌, ◌==◌, Bool, true, false, List, length, map, reverse, take}
use Rattle.std.specs.Prelude.{drop, slice_index_or}
use Rattle.ax25_address.specs.Callsign.{Callsign}
use Rattle.ax25_address.specs.AddressField.{IsField, IsWrittenField}
use Rattle.ax25_address.specs.declared.path.Path.{Path}
use Rattle.ax25_address.specs.declared.path.Hop.{Hop}
use Rattle.ax25_address.specs.declared.path.Role.{Role}
use Rattle.ax25_address.specs.declared.path.Role.TheVariants.{Command, Response, Old}

-- the C bit of the destination
abbrev pub destination_bit : Role → Bool
destination_bit Command = true
destination_bit Response = false
destination_bit (Old c) = c

-- the C bit of the source
abbrev pub source_bit : Role → Bool
source_bit Command = false
source_bit Response = true
source_bit (Old c) = c

-- how many repeaters a path has
abbrev pub repeater_count : Path → ℕ
repeater_count path = length path.repeaters.items

-- the seven octets of field k, counted from 0
abbrev pub field_at : List ℕ → ℕ → List ℕ
field_at octets k = take 7 (drop (7 * k) octets)

-- the octets are the path's fields in their order, if F relates a call, its bit 7 and its end bit to a field
pub record AreFields (F : Callsign → Bool → Bool → List ℕ → Type 0) (path : Path) (octets : List ℕ) : Type 0 where
  pub count : repeater_count path ≤ 8
  pub size : length octets ≡ 14 + 7 * repeater_count path
  pub destination : F path.dest (destination_bit path.role) false (field_at octets 0)
  pub source : F path.source (source_bit path.role) (repeater_count path == 0) (field_at octets 1)
  pub repeaters : (k : ℕ) (d : Hop) → k < repeater_count path
      → let hop = slice_index_or path.repeaters.items k d in
      F hop.call hop.done (k + 1 == repeater_count path) (field_at octets (k + 2))

-- octets that are read as a path
abbrev pub IsPath : Path → List ℕ → Type 0
IsPath = AreFields IsField

-- the octets begin with the path, which takes len of them
abbrev pub BeginsWithPath : List ℕ → Path → ℕ → Type 0
BeginsWithPath octets path len = (len ≤ length octets) × IsPath path (take len octets)

-- the octets that are written for a path
abbrev pub IsWrittenPath : Path → List ℕ → Type 0
IsWrittenPath = AreFields IsWrittenField

-- the repeater as it stands before it has repeated the frame
abbrev pub undone : Hop → Hop
undone hop = record { call = hop.call; done = false }

-- the way back: the ends swapped, the repeaters in reverse order and none of them done
abbrev pub way_back : Path → Role → Path
way_back path role = record {
  dest = path.source;
  source = path.dest;
  repeaters = record { items = map undone (reverse path.repeaters.items) };
  role = role;
}
