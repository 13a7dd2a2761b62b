-- Samples that carry transmissions at 300 bits a second: where each is due, the windows are decided as its tones.
-- Nothing is said of the other samples.
use Rattle.std.specs.Prelude.{◌≡◌, ◌*◌, ℤ, List, [], ◌∷◌, ◌++◌, length}
use Rattle.tone_table.specs.declared.tone.Tone.{Tone}
use Rattle.nrzi_bits.specs.Line.{line}
use Rattle.afsk_modulator.specs.Signal.{Transmission}
use Rattle.clean_signal.specs.GoodTransmission.{body_of}
use Rattle.hf_modem.specs.Windows.{tones_at}

-- as many windows as tones, from the first sample to the last, each decided as its tone
pub record Carries (tones : List Tone) (x : List ℤ) : Type 0 where
  pub size : length x ≡ 32 * length tones
  pub decided : tones_at 0 x ≡ tones

-- for each transmission as many samples as its silence, of any kind, and then the windows of its line; any samples
-- follow
abbrev pub CarriesAll : List Transmission → List ℤ → Type 0
CarriesAll [] x = Unit {0}
CarriesAll (t ∷ transmissions) x =
    (gap : List ℤ) × (part : List ℤ) × (rest : List ℤ) × (x ≡ gap ++ (part ++ rest)) × (length gap ≡ t.silence)
    × Carries (line (body_of t)) part × CarriesAll transmissions rest
