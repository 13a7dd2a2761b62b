-- A transmission (AX.25 2.2 section 3, ISO/IEC 3309) as samples of short-wave packet.
use Rattle.std.specs.Prelude.{ℕ, ℤ, List}
use Rattle.nrzi_bits.specs.Line.{line}
use Rattle.hdlc_framer.specs.Body.{body}
use Rattle.afsk_modulator.specs.Level.{at_level}
use Rattle.hf_sender.specs.Wave.{wave}

-- the wave, from phase 0 on and at a level, of the tones, from mark on, of the flags and frames
unfoldable pub hf_transmission : ℕ → List (List ℕ) → ℕ → ℕ → List ℤ
hf_transmission level frames opening closing = at_level level (wave (line (body frames opening closing)))
