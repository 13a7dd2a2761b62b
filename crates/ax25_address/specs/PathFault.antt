-- Where octets cease to spell a path, after AX.25 2.2 section 3.12: the first octet out of place, counted from 0.
use Rattle.std.specs.Prelude.{◌≡◌, ◌≢◌, ℕ, ◌-◌, ◌*◌, ◌%◌, ◌<◌, ◌⊎◌, List, length, slice_index}
use Rattle.ax25_address.specs.Callsign.{IsCallCharacter}
use Rattle.ax25_address.specs.declared.fault.AddrFault.{AddrFault}
use Rattle.ax25_address.specs.declared.fault.AddrFault.TheVariants.{Short, BadChar, OneAddress, NoEnd}

-- a character of a call, shifted left by one with bit 0 clear, which no space stands before in its field
pub record IsCharacterInPlace (octets : List ℕ) (at : ℕ) : Type 0 where
  pub character : ℕ
  pub allowed : IsCallCharacter character
  pub shifted : slice_index octets at ≡ 2 * character
  pub unspaced : 0 < at % 7 → slice_index octets (at - 1) ≢ 64

-- a space, shifted left by one, which is not the first of its field
pub record IsSpaceInPlace (octets : List ℕ) (at : ℕ) : Type 0 where
  pub padding : 0 < at % 7
  pub shifted : slice_index octets at ≡ 64

-- one of the six characters of a field that may stand where it does
abbrev pub IsNamePlace : List ℕ → ℕ → Type 0
IsNamePlace octets at = IsCharacterInPlace octets at ⊎ IsSpaceInPlace octets at

-- an octet of a path that goes on after it: a character in its place, or an SSID octet without the end bit
pub record GoesOn (octets : List ℕ) (at : ℕ) : Type 0 where
  pub character : at % 7 < 6 → IsNamePlace octets at
  pub end_bit : at % 7 ≡ 6 → slice_index octets at % 2 ≡ 0

-- the first n octets are those of a path that goes on
abbrev pub GoesOnFor : List ℕ → ℕ → Type 0
GoesOnFor octets n = (at : ℕ) → at < n → GoesOn octets at

-- the fault that the octets show, and its place. A bad character shows at an octet with bit 0 set, at one that is no
-- character of a call, at a space that is the first of its field, and at a character after a space
abbrev pub ShowsFault : List ℕ → AddrFault → Type 0
ShowsFault octets (Short at) = (at ≡ length octets) × (at < 70) × GoesOnFor octets at
ShowsFault octets (BadChar at) = (at < length octets) × (at < 70) × (at % 7 < 6) × GoesOnFor octets at
    × ¬ IsNamePlace octets at
ShowsFault octets OneAddress = (6 < length octets) × GoesOnFor octets 6 × (slice_index octets 6 % 2 ≡ 1)
ShowsFault octets NoEnd = (69 < length octets) × GoesOnFor octets 70
