-- A transmission (AX.25 2.2 section 3, ISO/IEC 3309) as samples of Bell 202, and what is no transmission.
use Rattle.std.specs.Prelude.{ℕ, ◌<◌, ◌⊎◌, ℤ, List, [], length, slice_index_or}
use Rattle.tone_table.specs.Wave.{wave_from, wave}
use Rattle.nrzi_bits.specs.Line.{line}
use Rattle.hdlc_framer.specs.Body.{body}
use Rattle.hdlc_framer.specs.FrameLength.{IsBadLength}
use Rattle.afsk_modulator.specs.Level.{at_level}

-- the wave, from phase 0 on, of the tones, from mark on, of the flags and frames
unfoldable pub transmission : List (List ℕ) → ℕ → ℕ → List ℤ
transmission frames opening closing = wave (line (body frames opening closing))

-- the wave from any phase on, at any level
unfoldable pub transmission_at : ℕ → ℕ → List (List ℕ) → ℕ → ℕ → List ℤ
transmission_at phase level frames opening closing =
    at_level level (wave_from phase (line (body frames opening closing)))

-- fewer than two flags open it, or none closes it
abbrev pub AreFewFlags : ℕ → ℕ → Type 0
AreFewFlags opening closing = (opening < 2) ⊎ (closing < 1)

-- the first frame that is too short or too long
pub record IsFirstBadLength (frames : List (List ℕ)) (index : ℕ) : Type 0 where
  pub within : index < length frames
  pub bad : IsBadLength (slice_index_or frames index [])
  pub earlier : (k : ℕ) → k < index → ¬ IsBadLength (slice_index_or frames k [])
