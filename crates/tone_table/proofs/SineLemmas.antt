-- The cycle of the sine as a list, and its loudness.
use Rattle.std.proofs.Common.{ℕ, ◌%◌, ◌≤◌, List, ℤ, unsigned_abs, true, nat_le, map, refl, arith}
use Rattle.std.proofs.lemmas.Bool.{agree_below_at, leb-true}
use Rattle.std.specs.List.{range_with_len}
use Rattle.tone_table.specs.Sine.{quarter, half_wave, cycle_sample, wave_sample}

-- the 48 samples of one cycle
unfoldable pub cycle : List ℤ
cycle = map wave_sample (range_with_len 0 48)

-- no sample is louder than 10000
pub unsigned_abs-wave_sample : (phase : ℕ) → unsigned_abs (wave_sample phase) ≤ 10000
unfolding wave_sample cycle_sample half_wave quarter
unsigned_abs-wave_sample phase =
    leb-true _ _ (agree_below_at (λ k. nat_le (unsigned_abs (cycle_sample k)) 10000) (λ _. true) 48 (phase % 48) refl
    (omega arith))
