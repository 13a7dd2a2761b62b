-- One address field, after AX.25 2.2 section 3.12: the six characters of a call, each shifted left by one, and the SSID
-- octet.
use Rattle.std.specs.Prelude.{◌≡◌, ℕ, ◌+◌, ◌*◌, ◌<◌, Bool, true, false, List, [], ◌∷◌, ◌++◌, map}
use Rattle.ax25_address.specs.Callsign.{Callsign, IsCall, padded}

-- a bit as a number
abbrev pub bit : Bool → ℕ
bit false = 0
bit true = 1

-- the SSID octet: bit 7 is C or H, bits 6 and 5 are reserved, bits 4 to 1 are the SSID, and bit 0 ends the address
abbrev pub ssid_octet : Bool → ℕ → ℕ → Bool → ℕ
ssid_octet top reserved ssid last = 128 * bit top + 32 * reserved + 2 * ssid + bit last

-- the seven octets of a call, its bit 7, the reserved bits and its end bit
abbrev pub field_octets : Callsign → Bool → ℕ → Bool → List ℕ
field_octets call top reserved last =
    map (λ c. 2 * c) (padded call.name) ++ (ssid_octet top reserved call.ssid last ∷ [])

-- octets that are read as a field: the two reserved bits may be any
pub record IsField (call : Callsign) (top last : Bool) (octets : List ℕ) : Type 0 where
  pub valid : IsCall call
  pub reserved : ℕ
  pub two_bits : reserved < 4
  pub spelling : octets ≡ field_octets call top reserved last

-- the octets that are written for a field: both reserved bits are 1
pub record IsWrittenField (call : Callsign) (top last : Bool) (octets : List ℕ) : Type 0 where
  pub valid : IsCall call
  pub spelling : octets ≡ field_octets call top 3 last
