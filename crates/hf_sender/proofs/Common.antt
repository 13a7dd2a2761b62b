-- The names that most proofs of this crate cite, passed on from one place.
pub use Rattle.afsk_modulator.proofs.LevelLemmas.{unsigned_abs-sample_at}
unfoldable pub use Rattle.afsk_modulator.specs.Level.{at_level, sample_at}
pub use Rattle.afsk_modulator.specs.Modulation.{Modulation}
pub use Rattle.hf_sender.specs.Modulation.{hf_after, hf_start, hf_window}
pub use Rattle.hf_sender.specs.Tones.{next_phase, phase_step}
unfoldable pub use Rattle.hf_sender.specs.Transmission.{hf_transmission}
unfoldable pub use Rattle.hf_sender.specs.Wave.{pure_window}
pub use Rattle.hf_sender.specs.Wave.{phase_from, wave, wave_from}
pub use Rattle.nrzi_bits.specs.Line.{last_tone, line}
pub use Rattle.std.proofs.Common.{FitsSigned, List, [], ap, append_assoc, arith, false, length, length-append, of_z, pos}
pub use Rattle.std.proofs.Common.{refl, rules, set, subst, sym, take, to_z, unsigned_abs, ℕ, ℤ, ◌%◌, ◌*ℤ◌, ◌*◌, ◌++◌}
pub use Rattle.std.proofs.Common.{◌+◌, ◌<◌, ◌∙◌, ◌∷◌, ◌≡◌, ◌≤◌}
pub use Rattle.std.proofs.lemmas.Int.{fits_signed_mul, ints, to_z-of_z}
pub use Rattle.std.proofs.lemmas.List.{append-nil, length-set, take_all, take_more, take_more_set}
pub use Rattle.std.specs.List.{range_with_len}
unfoldable pub use Rattle.tone_table.specs.Sine.{cycle_sample, wave_sample}
pub use Rattle.tone_table.specs.declared.tone.Tone.{Tone}
pub use mir.Syntax.{w16}
