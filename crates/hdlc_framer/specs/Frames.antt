-- Frames, flags and aborts in a list of bits (AX.25 2.2 sections 3.1, 3.6, 3.7, 3.9 and 3.10, ISO/IEC 3309).
use Rattle.std.specs.Prelude.{◌≡◌, ℕ, ◌/◌, ◌%◌, ◌<◌, ◌≤◌, Bool, List, [], ◌∷◌, ◌++◌, length}
use Rattle.std.specs.List.{All, suffix_len}
use Rattle.hdlc_framer.specs.BitOrder.{sent_bits}
use Rattle.hdlc_framer.specs.CheckSequence.{fcs_of}
use Rattle.hdlc_framer.specs.FrameLength.{least_frame_length, most_frame_length}
use Rattle.hdlc_framer.specs.Stuffing.{flag, stuffed}

-- a frame without its check sequence
pub record IsFrame (octets : List ℕ) : Type 0 where
  pub octets_fit : All (λ octet. octet < 256) octets
  pub least : least_frame_length ≤ length octets
  pub most : length octets ≤ most_frame_length

-- octets followed by their check sequence, its low octet first
unfoldable pub with_fcs : List ℕ → List ℕ
with_fcs octets = octets ++ (fcs_of octets % 256) ∷ (fcs_of octets / 256) ∷ []

-- a frame as it is sent between two flags
unfoldable pub frame_bits : List ℕ → List Bool
frame_bits octets = stuffed (sent_bits (with_fcs octets))

-- A frame ends with the last bit: the last eight bits are a flag, an earlier flag ends before the first of them, and
-- the bits between the two are those of the frame. Any earlier flag will do: it is a law of this crate that no two fit.
abbrev pub EndsFrame : List Bool → List ℕ → Type 0
EndsFrame bits octets =
    (before : List Bool) × (bits ≡ before ++ (flag ++ (frame_bits octets ++ flag))) × IsFrame octets

-- the last eight bits are a flag
abbrev pub EndsFlag : List Bool → Type 0
EndsFlag bits = (before : List Bool) × (bits ≡ before ++ flag)

-- how many 1s stand at the end, after the last 0
abbrev pub run_of_ones : List Bool → ℕ
run_of_ones bits = suffix_len (λ bit. bit) bits

-- the run of 1s at the end has just become an abort, seven long
abbrev pub EndsAbort : List Bool → Type 0
EndsAbort bits = run_of_ones bits ≡ 7
