-- Where the octets of one field, which begins at a place `start`, are out of place.
use Rattle.std.specs.Prelude.{◌≡◌, ℕ, ◌+◌, ◌*◌, ◌<◌, ◌≤◌, List, length}
use Rattle.ax25_address.specs.Callsign.{IsCallCharacter}
use Rattle.ax25_address.specs.PathFault.{IsNamePlace}
use Rattle.ax25_address.specs.declared.fault.AddrFault.{AddrFault}
use Rattle.ax25_address.specs.declared.fault.AddrFault.TheVariants.{Short, BadChar, OneAddress, NoEnd}

-- a character of a call, shifted left by one with bit 0 clear
abbrev pub IsShiftedCharacter : ℕ → Type 0
IsShiftedCharacter octet = (character : ℕ) × IsCallCharacter character × (octet ≡ 2 * character)

-- the characters of the field are in their places up to a place n
abbrev pub HasNameUpTo : List ℕ → ℕ → ℕ → Type 0
HasNameUpTo octets start n = (at : ℕ) → start ≤ at → at < n → at < start + 6 → IsNamePlace octets at

-- the fault that the field shows
abbrev pub IsFieldFault : List ℕ → ℕ → AddrFault → Type 0
IsFieldFault octets start (Short at) = (at ≡ length octets) × (start ≤ at) × (at < start + 7)
    × HasNameUpTo octets start at
IsFieldFault octets start (BadChar at) = (at < length octets) × (start ≤ at) × (at < start + 6)
    × HasNameUpTo octets start at × ¬ IsNamePlace octets at
IsFieldFault octets start OneAddress = ⊥
IsFieldFault octets start NoEnd = ⊥
