-- What the reader of a block's data looks for. No public clause cites it.
use Rattle.std.specs.Prelude.{◌≡◌, ◌≢◌, ℕ, ◌+◌, ◌<◌, ◌≤◌, Bool, List, ◌++◌, length, take, slice_index}
use Rattle.hdlc_framer.specs.Frames.{EndsFlag, IsFrame, frame_bits}
use Rattle.hdlc_framer.specs.Stuffing.{flag}

-- how many flags octets begin with, and no more
pub record Leading (count : ℕ) (octets : List ℕ) : Type 0 where
  pub within : count ≤ length octets
  pub are_flags : (k : ℕ) → k < count → slice_index octets k ≡ 126
  pub next : count < length octets → slice_index octets count ≢ 126

-- bits begin with a frame and a flag, which is over after so many bits
pub record BeginsWithFrame (bits : List Bool) (frame : List ℕ) (over : ℕ) : Type 0 where
  pub rest : List Bool
  pub bits_are : bits ≡ frame_bits frame ++ (flag ++ rest)
  pub is_frame : IsFrame frame
  pub over_is : over ≡ length (frame_bits frame) + 8

-- after a flag, no flag ends with any of the first bits, so many
abbrev pub NoFlagWithin : List Bool → ℕ → Type 0
NoFlagWithin bits count = (k : ℕ) → 0 < k → k ≤ count → ¬ EndsFlag (flag ++ take k bits)
