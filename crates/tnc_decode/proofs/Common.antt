-- The names that most proofs of this crate cite, passed on from one place.
pub use Rattle.frame_merge.proofs.Forgetting.{below_then_rest}
pub use Rattle.frame_merge.proofs.Merging.{below_between}
pub use Rattle.frame_merge.specs.Merged.{below, between, candidate_frames, merged, not_below}
pub use Rattle.frame_merge.specs.declared.candidate.Candidate.{Candidate}
pub use Rattle.sensitive_receiver.specs.MergedItems.{settled}
pub use Rattle.slicer_bank.specs.HeldDecoder.{StandsFor}
pub use Rattle.slicer_bank.specs.MergedItems.{AreMergedBetween}
pub use Rattle.std.proofs.Common.{Err, List, [], ap, append_assoc, arith, drop, false, get_or, inl, inr, length}
pub use Rattle.std.proofs.Common.{length-append, length-drop, refl, subst, sym, take, true, ℕ, ℤ, ◌++◌, ◌+◌, ◌-◌, ◌/◌}
pub use Rattle.std.proofs.Common.{◌<◌, ◌^◌, ◌∙◌, ◌∷◌, ◌≡◌, ◌≤◌}
pub use Rattle.std.proofs.lemmas.Bool.{cases_lt, le-ltb, lt-ltb}
pub use Rattle.std.proofs.lemmas.Grind.{common_steps}
pub use Rattle.std.proofs.lemmas.List.{append-nil, append_cancel_left, drop_all}
pub use Rattle.std.proofs.lemmas.Result.{IfOk-weaker, err_from_is_err_and}
pub use Rattle.std.specs.List.Sorted.{IsNonDecreasingBy}
pub use Rattle.std.specs.Prelude.{IfOk, None, Ok, Option, Result, Some, if◌then◌else◌, ◌⊎◌}
pub use Rattle.tnc_base.specs.Streams.{Gives, WrotePart}
pub use Rattle.tnc_decode.specs.Audio.{audio_fault, form_fault, form_fault_at, rates_of, samples_at, samples_read}
pub use Rattle.tnc_decode.specs.Audio.{stopping_fault, stopping_fault_at}
pub use Rattle.tnc_decode.specs.Decoded.{IsDecoded}
pub use Rattle.tnc_decode.specs.Held.{HasDecoded, HasHeard, HasTaken, HasTakenAt, position_of}
pub use Rattle.tnc_decode.specs.Modem.{AreGivenBelow, AreGivenBetween, AreGivenRest, AreHeard, modem_of, remaining, settled_count}
unfoldable pub use Rattle.tnc_decode.specs.Printing.{print}
pub use Rattle.tnc_decode.specs.Printing.{printed}
pub use Rattle.tnc_decode.specs.Settled.{IsSettled, sample_count}
pub use Rattle.tnc_decode.specs.Written.{most_at_once}
pub use Rattle.tnc_decode.specs.declared.audio.Audio.TheVariants.{File}
pub use Rattle.tnc_decode.specs.declared.decoders.Decoders.{Decoders}
pub use Rattle.tnc_decode.specs.declared.modem.Modem.{Modem}
pub use Rattle.tnc_decode.specs.declared.modem.Modem.TheVariants.{Fx25, Plain, Sensitive, SensitiveShortWave}
pub use Rattle.tnc_decode.specs.declared.modem.Modem.TheVariants.{ShortWave, Wide, WideSensitive, SensitiveFx25}
pub use Rattle.tnc_decode.specs.declared.receiver.Receiver.{Receiver}
pub use Rattle.tnc_forms.specs.Reading.{input_limit}
pub use Rattle.tnc_forms.specs.Taken.{WereRead}
pub use Rattle.tnc_forms.specs.declared.fault.InputFault.{InputFault}
pub use Rattle.tnc_forms.specs.declared.fault.InputFault.TheVariants.{TooLong}
pub use Rattle.tnc_words.specs.declared.command.AudioForm.{AudioForm}
pub use Rattle.tnc_words.specs.declared.command.AudioForm.TheVariants.{Raw, Wav}
pub use Rattle.tnc_words.specs.declared.command.DecodeWords.{DecodeWords}
pub use Rattle.tnc_words.specs.declared.command.FrameForm.{FrameForm}
unfoldable pub use Rattle.wav_file.specs.Chunks.{chunks}
unfoldable pub use Rattle.wav_file.specs.Reading.{reading}
pub use Rattle.wav_file.specs.Reading.{Reading, fault_in, rate_in, samples_in}
unfoldable pub use Rattle.wav_file.specs.Samples.{sample_of}
pub use Rattle.wav_file.specs.declared.fault.WavFault.{WavFault}
pub use Rattle.wav_file.specs.declared.rates.Rates.{Rates}
pub use Rattle.wide_input.specs.MergedItems.{AreWideMergedBetween, settled_ends}
pub use Rattle.wide_input.specs.SettledByAll.{settled_by_all}
pub use Rattle.resampler.specs.Filtered.{decimated, filtered}
