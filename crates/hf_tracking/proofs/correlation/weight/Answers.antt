use Rattle.hf_tracking.proofs.Common.{◌/◌, ◌≤◌, ℤ, unsigned_abs, subst, sym}
use Rattle.tone_table.specs.Sine.{quarter, half_wave, cycle_sample, wave_sample}
use Rattle.tone_tracking.specs.Correlation.{weight}
use Rattle.hf_tracking.proofs.CorrelationLemmas.{wave, read, weight_small}
use Rattle.hf_tracking.proofs.correlation.weight.Goals as goal

pub returns-clause-weight : goal.returns-clause-weight
unfolding wave weight wave_sample cycle_sample half_wave quarter
returns-clause-weight c = read c.args.phase c.requires

pub returns-clause-bound : goal.returns-clause-bound
unfolding wave weight wave_sample cycle_sample half_wave quarter
returns-clause-bound c =
    subst (λ (z : ℤ). unsigned_abs z ≤ 100) (sym (read c.args.phase c.requires)) (weight_small (c.args.phase / 8))
