-- A frame that is written in one modulus and read in another (AX.25 2.2 sections 4.2 and 3.1). The lowest two bits of
-- the first control octet tell an I frame, an S frame and a U frame apart in both, so none is taken for another. Modulo
-- 8 an I or S frame has one control octet, modulo 128 two.
use Rattle.std.specs.Prelude.{ℕ, ◌+◌, ◌*◌, ◌/◌, ◌%◌, Bool, ◌==◌, nat_lt, if◌then◌else◌, List, [], ◌∷◌, length, Option}
use Rattle.std.specs.Prelude.{Some, None}
use Rattle.ax25_address.specs.AddressField.{bit}
use Rattle.ax25_frames.specs.declared.frame.Modulus.{Modulus}
use Rattle.ax25_frames.specs.declared.frame.Modulus.TheVariants.{Eight, OneTwentyEight}
use Rattle.ax25_frames.specs.declared.frame.Frame.{Frame}
use Rattle.ax25_frames.specs.declared.frame.Kind.{Kind}
use Rattle.ax25_frames.specs.declared.frame.Kind.TheVariants.{Info, Super, Setup, Ui, Other}

abbrev pub is_odd : ℕ → Bool
is_odd n = n % 2 == 1

-- An I frame of modulus 8, read modulo 128: the octet after the control octet, its PID, is read as the second control
-- octet, and the next one as the PID. Without a next one it is refused.
abbrev pub info_read_wide : (ns nr : ℕ) → Bool → (second : ℕ) → List ℕ → Option Kind
info_read_wide ns nr poll second [] = None
info_read_wide ns nr poll second (pid ∷ octets) =
    Some (Info (16 * nr + 8 * bit poll + ns) (second / 2) (is_odd second) pid octets)

-- An S frame has no octet after it, and is refused. A U frame is the same in both.
abbrev pub read_wide : Kind → Option Kind
read_wide (Info ns nr poll pid octets) = info_read_wide ns nr poll pid octets
read_wide (Super which nr flag) = None
read_wide (Setup which flag) = Some (Setup which flag)
read_wide (Ui flag pid octets) = Some (Ui flag pid octets)
read_wide (Other which flag octets) = Some (Other which flag octets)

-- An I frame of modulus 128, read modulo 8: its second control octet is read as the PID, and its PID as the first octet
-- of the information, which may have 256. An S frame has an octet too many, and is refused. A U frame is the same in
-- both.
abbrev pub read_narrow : Kind → Option Kind
read_narrow (Info ns nr poll pid octets) =
    if nat_lt (length octets) 256
    then Some (Info (ns % 8) (ns / 16) (is_odd (ns / 8)) (2 * nr + bit poll) (pid ∷ octets)) else None
read_narrow (Super which nr flag) = None
read_narrow (Setup which flag) = Some (Setup which flag)
read_narrow (Ui flag pid octets) = Some (Ui flag pid octets)
read_narrow (Other which flag octets) = Some (Other which flag octets)

-- what a frame is read as, if it is written in the first modulus and read in the second
abbrev pub kind_read : (written read : Modulus) → Kind → Option Kind
kind_read Eight Eight kind = Some kind
kind_read Eight OneTwentyEight kind = read_wide kind
kind_read OneTwentyEight Eight kind = read_narrow kind
kind_read OneTwentyEight OneTwentyEight kind = Some kind

abbrev pub with_kind : Frame → Option Kind → Option Frame
with_kind frame None = None
with_kind frame (Some kind) = Some (record frame { kind = kind })

abbrev pub frame_read : (written read : Modulus) → Frame → Option Frame
frame_read written read frame = with_kind frame (kind_read written read frame.kind)
