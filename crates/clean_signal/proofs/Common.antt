-- The names that most proofs of this crate cite, passed on from one place.
pub use Rattle.afsk_modulator.specs.Modulation.{IsLevel}
unfoldable pub use Rattle.afsk_modulator.specs.Signal.{signal, signal_at}
pub use Rattle.afsk_modulator.specs.Signal.{Transmission, samples_of}
unfoldable pub use Rattle.afsk_modulator.specs.Transmission.{transmission}
pub use Rattle.clean_signal.specs.Carried.{Carries, CarriesAll}
pub use Rattle.clean_signal.specs.GoodTransmission.{IsTransmission, body_of, frames_of, sample_count}
pub use Rattle.clean_signal.specs.NearSignal.{IsNearAll, IsReceived, Received, transmissions_of}
pub use Rattle.clean_signal.specs.Stray.{is_sent}
pub use Rattle.clean_signal.specs.TrueEnds.{true_ends, true_ends_from}
pub use Rattle.clean_signal.specs.declared.true_end.TrueEnd.{TrueEnd}
pub use Rattle.frame_merge.specs.declared.candidate.Candidate.{Candidate}
unfoldable pub use Rattle.hdlc_framer.specs.Body.{body}
pub use Rattle.hdlc_framer.specs.Body.{flags}
unfoldable pub use Rattle.hdlc_framer.specs.Frames.{frame_bits, with_fcs}
pub use Rattle.hdlc_framer.specs.Frames.{IsFrame}
pub use Rattle.hdlc_framer.specs.Stuffing.{flag}
pub use Rattle.nrzi_bits.proofs.LineLemmas.{length-line_from}
pub use Rattle.nrzi_bits.specs.Line.{line}
pub use Rattle.offset_slicers.specs.Near.{distance}
pub use Rattle.slicer_bank.specs.Heard.{candidate_at}
pub use Rattle.std.proofs.Common.{Bool, List, [], ap, append-nil, append_assoc, arith, false, get_or, inl, inr, length}
pub use Rattle.std.proofs.Common.{length-append, map, pos, refl, replicate, subst, suc, sym, take, true, zero, ℕ, ℤ}
pub use Rattle.std.proofs.Common.{◌%◌, ◌*◌, ◌++◌, ◌+◌, ◌-◌, ◌/◌, ◌<◌, ◌∙◌, ◌∷◌, ◌≡◌, ◌≤◌}
pub use Rattle.std.proofs.Math.Nat.{mul-add}
pub use Rattle.std.proofs.lemmas.List.{length-replicate}
pub use Rattle.std.proofs.lemmas.List.Concat.{flat_map-append, flat_map-cons}
pub use Rattle.std.proofs.lemmas.List.Elements.{recursion_from_All}
pub use Rattle.std.proofs.lemmas.Slice.Eq.{bytes_eq-Decides}
pub use Rattle.std.specs.List.{All, AllByRecursion}
pub use Rattle.std.specs.Prelude.{◌&&◌}
pub use Rattle.std.specs.Str.{bytes_eq}
unfoldable pub use Rattle.tone_table.specs.Wave.{pure_window}
pub use Rattle.tone_table.specs.Wave.{wave, wave_from}
pub use Rattle.tone_table.specs.declared.tone.Tone.{Tone}
pub use Rattle.tone_table.specs.declared.tone.Tone.TheVariants.{Mark}
