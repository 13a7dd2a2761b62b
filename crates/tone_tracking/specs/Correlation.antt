-- The correlations of a window of eight samples, one bit at 9600 samples a second, with the two tones of Bell 202.
use Rattle.std.specs.Prelude.{ℕ, ◌+◌, ◌*◌, ℤ, pos, ◌+ℤ◌, ◌*ℤ◌, neg_ℤ, List, slice_index_or}
use Rattle.std.specs.Int.{int_div_euclid}
use Rattle.tone_table.specs.declared.tone.Tone.{Tone}
use Rattle.tone_table.specs.declared.tone.Tone.TheVariants.{Mark, Space}
use Rattle.tone_table.specs.Sine.{wave_sample}
use Rattle.tone_table.specs.Tones.{phase_step}
use Rattle.offset_slicers.specs.Decision.{sum_below}
use Rattle.tone_tracking.specs.declared.phasor.Phasor.{Phasor}
use Rattle.tone_tracking.specs.declared.correlation.Correlations.{Correlations}
use Rattle.tone_tracking.specs.Phasors.{IsWithin}

-- the wave's sample in hundreds, rounded
unfoldable pub weight : ℕ → ℤ
weight phase = int_div_euclid (wave_sample phase +ℤ pos 50) (pos 100)

-- a sample of the window that begins at a place, times a tone's weight there, the weights being some steps on
abbrev pub product_at : Tone → ℕ → List ℤ → ℕ → ℕ → ℤ
product_at tone shift x place i = slice_index_or x (place + i) (pos 0) *ℤ weight (i * phase_step tone + shift)

-- The correlation of the window that begins at a place with a tone: with its wave a sixth of a turn on, eight steps of
-- the 48, and with its wave turned round.
unfoldable pub correlation : Tone → List ℤ → ℕ → Phasor
correlation tone x place = record {
  a = sum_below (product_at tone 8 x place) 8;
  b = neg_ℤ (sum_below (product_at tone 0 x place) 8);
}

-- with both tones
abbrev pub correlations : List ℤ → ℕ → Correlations
correlations x place = record { mark = correlation Mark x place; space = correlation Space x place }

abbrev pub of_tone : Tone → Correlations → Phasor
of_tone Mark c = c.mark
of_tone Space c = c.space

-- as large as those of a window of samples without their mean can be
pub record AreWithin (c : Correlations) : Type 0 where
  pub mark : IsWithin 297000000 c.mark
  pub space : IsWithin 297000000 c.space
