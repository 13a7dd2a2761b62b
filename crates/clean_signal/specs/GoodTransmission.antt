-- Transmissions that a receiver can be held to (AX.25 2.2 section 3, ISO/IEC 3309).
use Rattle.std.specs.Prelude.{ℕ, ◌+◌, ◌*◌, ◌≤◌, List, Bool, length}
use Rattle.std.specs.List.{All, flat_map}
use Rattle.hdlc_framer.specs.Body.{body}
use Rattle.hdlc_framer.specs.Frames.{IsFrame}
use Rattle.afsk_modulator.specs.Signal.{Transmission}

-- Any silence and any number of frames. The line before the first flag is not known, so the first bit of that flag may
-- be lost, and a second one opens the frames.
pub record IsTransmission (t : Transmission) : Type 0 where
  pub frames : All IsFrame t.frames
  pub opening : 2 ≤ t.opening
  pub closing : 1 ≤ t.closing

-- the bits of a transmission: flags and frames
abbrev pub body_of : Transmission → List Bool
body_of t = body t.frames t.opening t.closing

-- how many samples a transmission takes: its silence, and eight a bit
abbrev pub sample_count : Transmission → ℕ
sample_count t = t.silence + 8 * length (body_of t)

-- the frames of all transmissions, in order
abbrev pub frames_of : List Transmission → List (List ℕ)
frames_of transmissions = flat_map (λ t. t.frames) transmissions
