-- The names that most proofs of this crate cite, passed on from one place.
pub use Rattle.nrzi_bits.specs.Line.{bits_from, bits_of, last_tone, same_tone}
unfoldable pub use Rattle.offset_slicers.specs.Decision.{cosine_sum, energy, sine_sum, sum_below, tone_of}
pub use Rattle.offset_slicers.specs.Decision.{product_of}
pub use Rattle.offset_slicers.specs.Held.{StandsFor, held_of, offset_from}
pub use Rattle.offset_slicers.specs.Near.{IsNear, distance}
unfoldable pub use Rattle.offset_slicers.specs.Windows.{bits, tones_at, window_at}
pub use Rattle.offset_slicers.specs.Windows.{EndsWindow, windows_in}
pub use Rattle.std.proofs.Common.{Bool, FitsSigned, List, [], ap, arith, drop, get_or, length, length-append}
pub use Rattle.std.proofs.Common.{length-drop, map, of_z, pos, refl, rules, set, subst, suc, sym, take, to_z, true}
pub use Rattle.std.proofs.Common.{unsigned_abs, zero, ℕ, ℤ, ◌%◌, ◌*ℤ◌, ◌*◌, ◌++◌, ◌+ℤ◌, ◌+◌, ◌-ℤ◌, ◌-◌, ◌/◌, ◌<◌, ◌∙◌}
pub use Rattle.std.proofs.Common.{◌∷◌, ◌≡◌, ◌≤◌}
pub use Rattle.std.proofs.Math.Nat.{mul-add, mul-le-mul_left, mul-le-mul_right}
pub use Rattle.std.proofs.lemmas.Bool.{agree_below_at}
pub use Rattle.std.proofs.lemmas.Int.{ints, to_z-of_z, unsigned_abs-mul}
pub use Rattle.std.proofs.lemmas.List.{append-nil, drop-append-le, length_push, take_all}
pub use Rattle.std.proofs.lemmas.List.FromFn.{get_or-map-range_with_len}
pub use Rattle.std.specs.List.{range_with_len}
unfoldable pub use Rattle.tone_table.specs.Sine.{cycle_sample, half_wave, quarter, wave_sample}
pub use Rattle.tone_table.specs.Tones.{next_phase, phase_step}
unfoldable pub use Rattle.tone_table.specs.Wave.{pure_window}
pub use Rattle.tone_table.specs.Wave.{wave_from}
pub use Rattle.tone_table.specs.declared.tone.Tone.{Tone}
pub use Rattle.tone_table.specs.declared.tone.Tone.TheVariants.{Mark, Space}
pub use mir.Syntax.{w16}
