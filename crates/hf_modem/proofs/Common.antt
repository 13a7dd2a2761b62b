-- The names that most proofs of this crate cite, passed on from one place.
pub use Rattle.afsk_modulator.proofs.LevelLemmas.{unsigned_abs-sample_at}
unfoldable pub use Rattle.afsk_modulator.specs.Level.{at_level, sample_at}
pub use Rattle.afsk_modulator.specs.Signal.{Transmission}
pub use Rattle.frame_merge.specs.Merged.{below, merged}
pub use Rattle.frame_merge.specs.Order.{in_order, standing}
pub use Rattle.frame_merge.specs.declared.candidate.Candidate.{Candidate}
pub use Rattle.hdlc_framer.specs.Frames.{EndsFrame}
pub use Rattle.hf_modem.specs.Candidates.{AreCandidates, AreCandidatesAfter, IsCandidate, candidate_at, end_sample}
unfoldable pub use Rattle.hf_modem.specs.Decision.{tone_of}
pub use Rattle.hf_modem.specs.Heard.{IsHeard}
pub use Rattle.hf_modem.specs.Held.{BankStandsFor, HeldBank, SlicerStandsFor, last_window}
unfoldable pub use Rattle.hf_modem.specs.Signal.{hf_signal}
pub use Rattle.hf_modem.specs.Signal.{hf_samples_of}
pub use Rattle.hf_sender.specs.Tones.{next_phase, phase_step}
unfoldable pub use Rattle.hf_sender.specs.Transmission.{hf_transmission}
unfoldable pub use Rattle.hf_sender.specs.Wave.{pure_window}
pub use Rattle.hf_sender.specs.Wave.{phase_from, wave, wave_from}
unfoldable pub use Rattle.hf_modem.specs.Windows.{bits, tones_at, window_at}
pub use Rattle.hf_modem.specs.Windows.{EndsWindow, windows_in}
pub use Rattle.nrzi_bits.specs.Line.{bits_of, last_tone, line}
unfoldable pub use Rattle.offset_slicers.specs.Decision.{sum_below}
pub use Rattle.offset_slicers.specs.Decision.{product_of}
pub use Rattle.slicer_bank.specs.ToneLanes.{HeldToneLane, ToneLaneStandsFor}
pub use Rattle.std.proofs.Common.{Bool, FitsSigned, List, None, Option, Some, [], ap, append_assoc, arith, drop, false}
pub use Rattle.std.proofs.Common.{get_or, inl, inr, length, length-append, nat_eq, of_z, pos, refl, replicate, rules}
pub use Rattle.std.proofs.Common.{set, subst, sym, take, to_z, true, unsigned_abs, w64, ℕ, ℤ, ◌%◌, ◌*ℤ◌, ◌*◌, ◌++◌, ◌+◌}
pub use Rattle.std.proofs.Common.{◌-◌, ◌/◌, ◌<◌, ◌^◌, ◌↔◌, ◌∙◌, ◌∷◌, ◌≡◌, ◌≤◌}
pub use Rattle.std.proofs.lemmas.Bool.{cases_eq, cases_lt, true≢false}
pub use Rattle.std.proofs.lemmas.Int.{fits_signed_mul, ints, to_z-of_z}
pub use Rattle.std.proofs.lemmas.List.{append-nil, length-replicate, length-set, length_push, take_all, take_more}
pub use Rattle.std.proofs.lemmas.List.{take_more_set}
pub use Rattle.std.proofs.lemmas.List.Elements.{All-append, All-nil}
pub use Rattle.std.specs.List.{All, range_with_len}
pub use Rattle.std.specs.Option.{option_to_list}
pub use Rattle.std.specs.Prelude.{IfOk}
unfoldable pub use Rattle.tone_table.specs.Sine.{cycle_sample, wave_sample}
pub use Rattle.tone_table.specs.declared.tone.Tone.{Tone}
pub use Rattle.tone_table.specs.declared.tone.Tone.TheVariants.{Mark}
pub use mir.Syntax.{w16}
