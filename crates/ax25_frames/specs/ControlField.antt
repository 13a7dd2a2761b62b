-- The control field of a frame, after AX.25 2.2 section 4.2: one octet modulo 8, and modulo 128 two octets in I and S
-- frames.
use Rattle.std.specs.Prelude.{ℕ, ◌+◌, ◌*◌, ◌<◌, List, [], ◌∷◌}
use Rattle.ax25_address.specs.AddressField.{bit}
use Rattle.ax25_frames.specs.declared.frame.Modulus.{Modulus}
use Rattle.ax25_frames.specs.declared.frame.Modulus.TheVariants.{Eight, OneTwentyEight}
use Rattle.ax25_frames.specs.declared.frame.S.{S}
use Rattle.ax25_frames.specs.declared.frame.S.TheVariants.{Rr, Rnr, Rej, Srej}
use Rattle.ax25_frames.specs.declared.frame.U.TheVariants.{Sabm, Sabme, Disc, Dm, Ua}
use Rattle.ax25_frames.specs.declared.frame.W.TheVariants.{Frmr, Xid, Test}
use Rattle.ax25_frames.specs.declared.control.Control.{Control}
use Rattle.ax25_frames.specs.declared.control.Control.TheVariants.{Info, Super, Unnumbered}
use Rattle.ax25_frames.specs.declared.control.Unnumbered.{Unnumbered as UFrame}
use Rattle.ax25_frames.specs.declared.control.Unnumbered.TheVariants.{Setup, Ui, Other}

-- how many send and receive sequence numbers there are
abbrev pub numbers : Modulus → ℕ
numbers Eight = 8
numbers OneTwentyEight = 128

-- the two bits that tell a supervisory frame's kind
abbrev pub supervisory_code : S → ℕ
supervisory_code Rr = 0
supervisory_code Rnr = 1
supervisory_code Rej = 2
supervisory_code Srej = 3

-- the control octet of an unnumbered frame whose P/F bit is 0
abbrev pub unnumbered_code : UFrame → ℕ
unnumbered_code (Setup Sabm) = 0x2f
unnumbered_code (Setup Sabme) = 0x6f
unnumbered_code (Setup Disc) = 0x43
unnumbered_code (Setup Dm) = 0x0f
unnumbered_code (Setup Ua) = 0x63
unnumbered_code Ui = 0x03
unnumbered_code (Other Frmr) = 0x87
unnumbered_code (Other Xid) = 0xaf
unnumbered_code (Other Test) = 0xe3

-- the octets of a control field
abbrev pub control_octets : Modulus → Control → List ℕ
control_octets Eight (Info ns nr poll) = (32 * nr + 16 * bit poll + 2 * ns) ∷ []
control_octets OneTwentyEight (Info ns nr poll) = (2 * ns) ∷ (2 * nr + bit poll) ∷ []
control_octets Eight (Super which nr flag) = (32 * nr + 16 * bit flag + 4 * supervisory_code which + 1) ∷ []
control_octets OneTwentyEight (Super which nr flag) = (4 * supervisory_code which + 1) ∷ (2 * nr + bit flag) ∷ []
control_octets modulus (Unnumbered which flag) = (unnumbered_code which + 16 * bit flag) ∷ []

-- the sequence numbers are below the modulus
abbrev pub IsNumbered : Modulus → Control → Type 0
IsNumbered modulus (Info ns nr poll) = (ns < numbers modulus) × (nr < numbers modulus)
IsNumbered modulus (Super which nr flag) = nr < numbers modulus
IsNumbered modulus (Unnumbered which flag) = Unit {0}
