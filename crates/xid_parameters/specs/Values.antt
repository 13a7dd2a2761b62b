-- What the values of parameters tell (AX.25 2.2, figure 4.5).
use Rattle.std.specs.Prelude.{ℕ, ◌+◌, ◌*◌, ◌/◌, ◌%◌, ◌^◌, ◌==◌, nat_le, Bool, ◌&&◌, if◌then◌else◌, List, [], ◌∷◌, length}
use Rattle.std.specs.Prelude.{Option, Some, None}
use Rattle.ax25_frames.specs.declared.frame.Modulus.{Modulus}
use Rattle.ax25_frames.specs.declared.frame.Modulus.TheVariants.{Eight, OneTwentyEight}
use Rattle.selective_reject.specs.declared.window.Mode.{Mode}
use Rattle.selective_reject.specs.declared.window.Mode.TheVariants.{Rej, Srej}
use Rattle.xid_parameters.specs.declared.parameters.Duplex.{Duplex}
use Rattle.xid_parameters.specs.declared.parameters.Duplex.TheVariants.{Half, Full}

-- the number that octets spell, the high one first, if one stands before them
abbrev pub number_after : ℕ → List ℕ → ℕ
number_after before [] = before
number_after before (octet ∷ octets) = number_after (256 * before + octet) octets

abbrev pub number_of : List ℕ → ℕ
number_of octets = number_after 0 octets

-- whether an octet has a bit; bit 0 is the lowest
abbrev pub has_bit : ℕ → ℕ → Bool
has_bit bit octet = octet / 2 ^ bit % 2 == 1

-- Classes of procedures have two octets: in the first one bit 5 is half duplex, and bit 6 full duplex.
abbrev pub duplex_of : ℕ → Option Duplex
duplex_of octet = if has_bit 6 octet then Some Full else if has_bit 5 octet then Some Half else None

abbrev pub duplex_in : List ℕ → Option Duplex
duplex_in [] = None
duplex_in (first ∷ []) = None
duplex_in (first ∷ second ∷ []) = duplex_of first
duplex_in (first ∷ second ∷ third ∷ more) = None

-- Optional functions have three octets, of which the bits count on: bit 1 is REJ and bit 2 SREJ, bit 10 modulo 8 and bit
-- 11 modulo 128.
abbrev pub mode_of : ℕ → Option Mode
mode_of octet = if has_bit 2 octet then Some Srej else if has_bit 1 octet then Some Rej else None

abbrev pub mode_in : List ℕ → Option Mode
mode_in [] = None
mode_in (first ∷ []) = None
mode_in (first ∷ second ∷ []) = None
mode_in (first ∷ second ∷ third ∷ []) = mode_of first
mode_in (first ∷ second ∷ third ∷ fourth ∷ more) = None

abbrev pub modulus_of : ℕ → Option Modulus
modulus_of octet = if has_bit 3 octet then Some OneTwentyEight else if has_bit 2 octet then Some Eight else None

abbrev pub modulus_in : List ℕ → Option Modulus
modulus_in [] = None
modulus_in (first ∷ []) = None
modulus_in (first ∷ second ∷ []) = None
modulus_in (first ∷ second ∷ third ∷ []) = modulus_of second
modulus_in (first ∷ second ∷ third ∷ fourth ∷ more) = None

-- a number of one to four octets
abbrev pub number_in : List ℕ → Option ℕ
number_in value = if nat_le 1 (length value) && nat_le (length value) 4 then Some (number_of value) else None

-- N1 is told in bits
abbrev pub info_octets_in : List ℕ → Option ℕ
info_octets_in value =
    if nat_le 1 (length value) && nat_le (length value) 4 then Some (number_of value / 8) else None

-- N2 is one octet, and so is k, which is at least 1 and at most 127
abbrev pub octet_in : List ℕ → Option ℕ
octet_in [] = None
octet_in (octet ∷ []) = Some octet
octet_in (octet ∷ _ ∷ _) = None

abbrev pub window_of : Option ℕ → Option ℕ
window_of None = None
window_of (Some octet) = if nat_le 1 octet && nat_le octet 127 then Some octet else None

abbrev pub window_in : List ℕ → Option ℕ
window_in value = window_of (octet_in value)
