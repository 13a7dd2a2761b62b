-- A repeated frame, after AX.25 2.2 section 3.12: each repeater of the path, in its turn, sets the H bit of its own
-- field.
use Rattle.std.specs.Prelude.{◌≡◌, ℕ, ◌+◌, ◌*◌, ◌<◌, true, false, List, length, slice_index, slice_index_or, slice_set}
use Rattle.std.specs.Prelude.{bit_or}
use Rattle.ax25_address.specs.Callsign.{Callsign}
use Rattle.ax25_address.specs.FramePath.{BeginsWithPath}
use Rattle.ax25_address.specs.declared.path.Hop.{Hop}
use Rattle.ax25_address.specs.declared.path.Path.{Path}

-- repeater k is the next to repeat: the first one with H clear
pub record IsNextRepeater (hops : List Hop) (k : ℕ) : Type 0 where
  pub within : k < length hops
  pub before : (j : ℕ) (d : Hop) → j < k → (slice_index_or hops j d).done ≡ true
  pub waits : (d : Hop) → (slice_index_or hops k d).done ≡ false

-- the octets begin with a path, and its next repeater is repeater k, which is the call
pub record IsTurnOf (call : Callsign) (octets : List ℕ) (k : ℕ) : Type 0 where
  pub path : Path
  pub len : ℕ
  pub begins : BeginsWithPath octets path len
  pub next : IsNextRepeater path.repeaters.items k
  pub called : (d : Hop) → (slice_index_or path.repeaters.items k d).call ≡ call

-- where the SSID octet of repeater k stands, after two fields of seven octets and k more
abbrev pub ssid_place : ℕ → ℕ
ssid_place k = 7 * (k + 2) + 6

-- the octets with the H bit of repeater k set, which is bit 7 of its SSID octet
abbrev pub repeated : List ℕ → ℕ → List ℕ
repeated octets k = slice_set octets (ssid_place k) (bit_or (slice_index octets (ssid_place k)) 128)
