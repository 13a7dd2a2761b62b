-- The names that most proofs of this crate cite, passed on from one place.
pub use Rattle.std.proofs.Common.{Bool, List, [], ap, arith, drop, get_or, length, length-append, map, pos, refl, subst, suc}
pub use Rattle.std.proofs.Common.{sym, take, true, zero, ℕ, ℤ, unsigned_abs, ◌%◌, ◌*◌, ◌++◌, ◌+◌, ◌-◌, ◌/◌, ◌<◌, ◌∙◌, ◌∷◌}
pub use Rattle.std.proofs.Common.{◌≡◌, ◌≤◌, ◌+ℤ◌, ◌-ℤ◌, ◌*ℤ◌}
pub use Rattle.std.proofs.lemmas.Int.{ints}
pub use Rattle.std.specs.List.{All, AllByRecursion, sum_by}
pub use Rattle.tone_table.specs.declared.tone.Tone.{Tone}
pub use Rattle.tone_table.specs.declared.tone.Tone.TheVariants.{Mark, Space}
unfoldable pub use Rattle.tone_table.specs.Sine.{wave_sample, cycle_sample, half_wave, quarter}
pub use Rattle.tone_table.specs.Tones.{phase_step}
unfoldable pub use Rattle.offset_slicers.specs.Decision.{sum_below}
pub use Rattle.offset_slicers.specs.Near.{IsNear, distance}
pub use Rattle.resampler.specs.Taps.{taps}
unfoldable pub use Rattle.wide_signal.specs.FineWave.{fine_sample, fine_cycle, fine_half, fine_quarter}
pub use Rattle.wide_signal.specs.FineWave.{IsNearFine, fine_phase}
