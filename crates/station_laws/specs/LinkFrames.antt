-- The frames between two calls, told by the first two fields of a frame's address field (AX.25 2.2 section 3.12): the
-- call of the destination, then that of the source. The C bits, the reserved bits and the end bit are no part of a
-- call.
use Rattle.std.specs.Prelude.{ℕ, ◌*◌, ◌/◌, ◌%◌, ◌==◌, ◌&&◌, Bool, List, map, take, slice_index_or}
use Rattle.std.specs.Str.{bytes_eq}
use Rattle.ax25_address.specs.Callsign.{Callsign, padded}
use Rattle.ax25_address.specs.FramePath.{field_at}

-- field k, counted from 0, has this call: its six characters, each shifted left by one, and its SSID
abbrev pub has_call : List ℕ → ℕ → Callsign → Bool
has_call octets k call =
    bytes_eq (take 6 (field_at octets k)) (map (λ c. 2 * c) (padded call.name))
    && (slice_index_or (field_at octets k) 6 0 / 2 % 16 == call.ssid)

-- a frame from one call to another
abbrev pub is_from_to : Callsign → Callsign → List ℕ → Bool
is_from_to source dest octets = has_call octets 0 dest && has_call octets 1 source
