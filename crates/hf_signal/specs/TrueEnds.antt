-- Where the frames of transmissions end at 300 bits a second: the true end of a frame is the first sample after the
-- last window of the flag that follows it.
use Rattle.std.specs.Prelude.{ℕ, ◌+◌, ◌*◌, List, [], ◌∷◌, ◌++◌, length}
use Rattle.hdlc_framer.specs.Frames.{frame_bits}
use Rattle.hdlc_framer.specs.Stuffing.{flag}
use Rattle.afsk_modulator.specs.Signal.{Transmission}
use Rattle.clean_signal.specs.declared.true_end.TrueEnd.{TrueEnd}
use Rattle.clean_signal.specs.GoodTransmission.{body_of}

-- how many samples a transmission takes: its silence, and 32 a bit
abbrev pub sample_count : Transmission → ℕ
sample_count t = t.silence + 32 * length (body_of t)

-- the end of a frame whose first window begins at a sample: its bits and a flag take 32 samples a bit
abbrev pub end_of : ℕ → List ℕ → ℕ
end_of begin octets = begin + 32 * length (frame_bits octets ++ flag)

-- the ends of frames with one flag between neighbours, so that each begins where the one before ends
abbrev pub ends_from : ℕ → List (List ℕ) → List TrueEnd
ends_from begin [] = []
ends_from begin (octets ∷ frames) = record { end = end_of begin octets; octets = octets }
    ∷ ends_from (end_of begin octets) frames

-- the ends of a transmission that begins at a sample: silence and opening flags, 256 samples each, stand before its
-- frames
abbrev pub ends_of : ℕ → Transmission → List TrueEnd
ends_of begin t = ends_from (begin + t.silence + 256 * t.opening) t.frames

-- the ends of transmissions, one after the other, from a sample on
abbrev pub true_ends_from : ℕ → List Transmission → List TrueEnd
true_ends_from begin [] = []
true_ends_from begin (t ∷ transmissions) = ends_of begin t ++ true_ends_from (begin + sample_count t) transmissions

abbrev pub true_ends : List Transmission → List TrueEnd
true_ends transmissions = true_ends_from 0 transmissions
