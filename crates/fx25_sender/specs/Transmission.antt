-- A transmission of FX.25 (over AX.25 2.2 section 3 and Bell 202) as samples.
use Rattle.std.specs.Prelude.{ℕ, ℤ, Bool, List, ◌++◌}
use Rattle.std.specs.List.{flat_map}
use Rattle.tone_table.specs.Wave.{wave_from}
use Rattle.nrzi_bits.specs.Line.{line}
use Rattle.hdlc_framer.specs.Body.{flags}
use Rattle.afsk_modulator.specs.Level.{at_level}
use Rattle.fx25_sender.specs.Units.{unit}

-- opening flags, the units of the frames with so many check octets, one after another, and closing flags
unfoldable pub fx25_body : ℕ → List (List ℕ) → ℕ → ℕ → List Bool
fx25_body checks frames opening closing = flags opening ++ (flat_map (unit checks) frames ++ flags closing)

-- the wave, from phase 0 on and at a level, of the tones, from mark on, of these bits: one line goes through all of
-- them
unfoldable pub fx25_transmission : ℕ → ℕ → List (List ℕ) → ℕ → ℕ → List ℤ
fx25_transmission checks level frames opening closing =
    at_level level (wave_from 0 (line (fx25_body checks frames opening closing)))
