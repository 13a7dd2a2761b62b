-- The names that most proofs of this crate cite, passed on from one place.
unfoldable pub use Rattle.afsk_modulator.specs.Signal.{signal}
pub use Rattle.afsk_modulator.specs.Signal.{Transmission, samples_of}
unfoldable pub use Rattle.afsk_modulator.specs.Transmission.{transmission_at}
pub use Rattle.channel_access.specs.Words.{words}
pub use Rattle.clean_signal.proofs.WaveLemmas.{length-samples_of}
pub use Rattle.clean_signal.specs.GoodTransmission.{frames_of, sample_count}
pub use Rattle.clean_signal.specs.NearSignal.{Received}
pub use Rattle.clean_signal.specs.Stray.{NoStray, is_sent}
pub use Rattle.clean_signal.specs.TrueEnds.{true_ends}
pub use Rattle.clean_signal.specs.declared.true_end.TrueEnd.{TrueEnd}
pub use Rattle.frame_merge.specs.Merged.{merged}
pub use Rattle.frame_merge.specs.declared.candidate.Candidate.{Candidate}
pub use Rattle.offset_slicers.specs.Near.{IsNear}
pub use Rattle.rand_pcg.specs.Lcg.{Lcg}
pub use Rattle.rand_pcg.specs.Pcg.{pcg32}
pub use Rattle.slicer_bank.specs.Candidates.{AreCandidates}
pub use Rattle.std.proofs.Common.{Bool, Err, List, Some, [], ap, append-nil, append_assoc, arith, cond, drop, false}
pub use Rattle.std.proofs.Common.{get_or, length, length-append, map, pos, refl, rules, string_bytes, subst, suc, sym}
pub use Rattle.std.proofs.Common.{true, unsigned_abs, zero, ℕ, ℤ, ◌%◌, ◌*◌, ◌++◌, ◌+◌, ◌-◌, ◌<◌, ◌^◌, ◌∙◌, ◌∷◌, ◌≡◌}
pub use Rattle.std.proofs.Common.{◌≤◌}
pub use Rattle.std.proofs.Math.Nat.{mod-lt}
pub use Rattle.std.proofs.lemmas.Int.{ints}
pub use Rattle.std.proofs.lemmas.List.{drop_all, drop_more}
pub use Rattle.std.proofs.lemmas.List.Concat.{flat_map-cons}
pub use Rattle.std.specs.List.{All, concat, flat_map}
pub use Rattle.std.specs.Prelude.{not}
pub use Rattle.tnc_base.specs.Streams.{WrotePart}
unfoldable pub use Rattle.tnc_loop.specs.Drawn.{after_heard, after_transmission, drawn, heard_drawn, heard_of}
unfoldable pub use Rattle.tnc_loop.specs.Drawn.{received_drawn, samples_drawn, transmission_drawn}
pub use Rattle.tnc_loop.specs.Drawn.{Heard, all_heard, length_drawn, octets_drawn}
pub use Rattle.tnc_loop.specs.Held.{HasFound, HasSent, drawn_as, sent_of}
unfoldable pub use Rattle.tnc_loop.specs.Rough.{after_rough, rough_samples}
pub use Rattle.tnc_loop.specs.Rough.{exact_samples, level_drawn, noise_of, rough_received, with_errors}
pub use Rattle.tnc_loop.specs.Strays.{first_stray, strays}
unfoldable pub use Rattle.tnc_loop.specs.Summary.{summary}
pub use Rattle.tnc_loop.specs.Summary.{IsSummary}
pub use Rattle.tnc_loop.specs.Words.{following, loop_generator, word_at}
pub use Rattle.tnc_loop.specs.declared.sending.Sent.{Sent}
pub use Rattle.tnc_words.specs.declared.command.LoopWords.{LoopWords}
