-- The correlations of a window of 32 samples, one bit at 9600 samples and 300 bits a second, with the two tones of
-- packet radio on short wave, as a bank expects them. Nine banks have tones 25 Hz apart, from 100 Hz below to 100 Hz above
-- 1600 and 1800 Hz. Phases are in 384ths of a turn, and a window begins at each fourth sample.
use Rattle.std.specs.Prelude.{ℕ, ◌+◌, ◌*◌, ◌/◌, ◌≤◌, ℤ, pos, ◌*ℤ◌, neg_ℤ, unsigned_abs, List, slice_index_or}
use Rattle.tone_table.specs.declared.tone.Tone.{Tone}
use Rattle.tone_table.specs.declared.tone.Tone.TheVariants.{Mark, Space}
use Rattle.offset_slicers.specs.Decision.{sum_below}
use Rattle.tone_tracking.specs.declared.phasor.Phasor.{Phasor}
use Rattle.tone_tracking.specs.declared.correlation.Correlations.{Correlations}
use Rattle.tone_tracking.specs.Correlation.{weight}

-- how far the phase of a tone of a bank advances with a sample: 1600 or 1800 Hz in the bank of number 4
abbrev pub phase_step : ℕ → Tone → ℕ
phase_step bank Mark = 60 + bank
phase_step bank Space = 68 + bank

-- The phase at which the window of a place begins is counted from the middle of both tones. So whatever the bank, a bit of
-- mark takes a phase back by a third of a turn, and a bit of space takes it on by as much.
abbrev pub phase_at : ℕ → ℕ → ℕ
phase_at bank place = 4 * (place * (64 + bank))

-- the wave at a phase, in hundreds
abbrev pub fine_weight : ℕ → ℤ
fine_weight phase = weight (phase / 8)

-- a sample of the window of a place, times a tone's weight there, the weights being some 384ths on
abbrev pub product_at : ℕ → Tone → ℕ → List ℤ → ℕ → ℕ → ℤ
product_at bank tone shift x place i =
    slice_index_or x (4 * place + i) (pos 0) *ℤ fine_weight (phase_at bank place + shift + i * phase_step bank tone)

-- the correlation of the window of a place with a tone: with its wave a sixth of a turn on, and with its wave turned round
unfoldable pub correlation : ℕ → Tone → List ℤ → ℕ → Phasor
correlation bank tone x place = record {
  a = sum_below (product_at bank tone 64 x place) 32;
  b = neg_ℤ (sum_below (product_at bank tone 0 x place) 32);
}

-- with both tones
abbrev pub correlations : ℕ → List ℤ → ℕ → Correlations
correlations bank x place = record { mark = correlation bank Mark x place; space = correlation bank Space x place }

-- as large as the parts of a correlation can be
pub record IsSmall (p : Phasor) : Type 0 where
  pub first : unsigned_abs p.a ≤ 104857600
  pub second : unsigned_abs p.b ≤ 104857600

-- as large as the correlations of a window can be
pub record AreSmall (c : Correlations) : Type 0 where
  pub mark : IsSmall c.mark
  pub space : IsSmall c.space
