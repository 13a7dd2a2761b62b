use Rattle.std.proofs.Common.{◌≡◌, ℕ, ℤ, pos, ◌<◌, ◌≤◌, unsigned_abs, FitsSigned, get_or, to_z, of_z, ap, subst, arith}
use Rattle.std.proofs.Common.{sym, ◌∙◌}
use Rattle.std.proofs.lemmas.Int.{ints, to_z-of_z}
use Rattle.std.proofs.lemmas.List.FromFn.{get_or-map-range_with_len}
use mir.Syntax.{w16}
use Rattle.tone_table.specs.Sine.{quarter, half_wave, cycle_sample, wave_sample}
use Rattle.tone_table.proofs.SineLemmas.{cycle, unsigned_abs-wave_sample}
use Rattle.tone_table.proofs.phase.sine.Goals as goal

-- what is read at a phase is the sample there, and a sample fits
read : (phase : ℕ) → phase < 48 → to_z w16 (of_z w16 (get_or cycle phase (pos 0))) ≡ wave_sample phase
unfolding cycle
read phase below =
    let small : unsigned_abs (wave_sample phase) ≤ 10000 = unsigned_abs-wave_sample phase in
    let fits : FitsSigned w16 (wave_sample phase) = search (arith, ints) in
    ap (λ z. to_z w16 (of_z w16 z)) (get_or-map-range_with_len wave_sample 0 48 phase phase (pos 0) below (omega arith))
    ∙ to_z-of_z w16 (wave_sample phase) fits

pub returns-clause-sample : goal.returns-clause-sample
unfolding cycle wave_sample cycle_sample half_wave quarter
returns-clause-sample c = read c.args.phase c.requires

pub returns-clause-bound : goal.returns-clause-bound
unfolding cycle wave_sample cycle_sample half_wave quarter
returns-clause-bound c =
    subst (λ (z : ℤ). unsigned_abs z ≤ 10000) (sym (read c.args.phase c.requires))
    (unsigned_abs-wave_sample c.args.phase)
