-- The bits of a transmission (AX.25 2.2 sections 3.1, 3.6 and 3.7, ISO/IEC 3309).
use Rattle.std.specs.Prelude.{ℕ, zero, suc, Bool, List, [], ◌∷◌, ◌++◌}
use Rattle.hdlc_framer.specs.Stuffing.{flag}
use Rattle.hdlc_framer.specs.Frames.{frame_bits}

-- so many flags
abbrev pub flags : ℕ → List Bool
flags zero = []
flags (suc count) = flag ++ flags count

-- frames with exactly one flag between neighbours
abbrev pub joined : List (List ℕ) → List Bool
joined [] = []
joined (octets ∷ []) = frame_bits octets
joined (octets ∷ next ∷ frames) = frame_bits octets ++ (flag ++ joined (next ∷ frames))

-- opening flags, the frames, and closing flags
unfoldable pub body : List (List ℕ) → ℕ → ℕ → List Bool
body frames opening closing = flags opening ++ (joined frames ++ flags closing)
