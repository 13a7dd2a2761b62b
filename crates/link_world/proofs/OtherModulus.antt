-- Whether an I frame that is read in the other modulus makes a link send SABM, SABME or DISC: by the N(R) that is read.
use Rattle.link_world.proofs.Common.{◌≡◌, ℕ, ◌+◌, ◌%◌, Bool, true, false, not, ◌&&◌, ◌==◌, nat_lt, if◌then◌else◌, List}
use Rattle.link_world.proofs.Common.{[], ◌∷◌, length, Some, None, refl, Path, Frame, Info, Machine, hearing_asks}
use Rattle.link_world.proofs.Common.{read_narrow, with_kind, suc, ap, ◌∙◌, arith, ne_eqb}
use Rattle.std.specs.Prelude.{◌*◌, ◌/◌}
use Rattle.ax25_address.specs.AddressField.{bit}
use Rattle.link_machine.specs.Asks.{asks}
use Rattle.link_machine.specs.Event.Event.{Hear}
use Rattle.link_world.specs.Reading.{is_odd, info_read_wide}

-- what a link does on each I frame with an N(R)
abbrev pub AsksOnNumber : Machine → ℕ → Bool → Type 0
AsksOnNumber m nr asked = (path : Path) (ns pid : ℕ) (poll : Bool) (octets : List ℕ)
    → asked ≡ asks m (Hear (record { path = path; kind = Info ns nr poll pid octets }))

-- one of modulus 8, read modulo 128
pub wide_asked :
    (m : Machine) (frame : Frame) (ns nr : ℕ) (poll : Bool) (second : ℕ) (octets : List ℕ) (asked : Bool)
    → AsksOnNumber m (second / 2) asked
    → (not (length octets == 0) && asked) ≡ hearing_asks m (with_kind frame (info_read_wide ns nr poll second octets))
wide_asked m frame ns nr poll second [] asked told = refl
wide_asked m frame ns nr poll second (pid ∷ octets) asked told =
    ap (λ b. not b && asked) (ne_eqb (suc (length octets)) 0 (λ zero_is. omega arith))
    ∙ told frame.path (16 * nr + 8 * bit poll + ns) pid (is_odd second) octets

-- one of modulus 128, read modulo 8
pub narrow_asked :
    (m : Machine) (frame : Frame) (ns nr : ℕ) (poll : Bool) (pid : ℕ) (octets : List ℕ) (asked : Bool)
    → AsksOnNumber m (ns / 16) asked
    → (nat_lt (length octets) 256 && asked)
    ≡ hearing_asks m (with_kind frame (read_narrow (Info ns nr poll pid octets)))
narrow_asked m frame ns nr poll pid octets asked told = go (nat_lt (length octets) 256)
  where
    go : (fits : Bool) → (fits && asked) ≡ hearing_asks m (with_kind frame
        (if fits then Some (Info (ns % 8) (ns / 16) (is_odd (ns / 8)) (2 * nr + bit poll) (pid ∷ octets)) else None))
    go true = told frame.path (ns % 8) (2 * nr + bit poll) (is_odd (ns / 8)) (pid ∷ octets)
    go false = refl
