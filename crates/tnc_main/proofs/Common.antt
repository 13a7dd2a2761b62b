-- The names that most proofs of this crate cite, passed on from one place.
pub use Rattle.afsk_modulator.specs.Signal.{Transmission}
pub use Rattle.channel_bench.specs.declared.report.BenchFault.{BenchFault}
pub use Rattle.clean_signal.specs.GoodTransmission.{IsTransmission}
pub use Rattle.frame_merge.specs.Merged.{merged}
pub use Rattle.frame_merge.specs.declared.candidate.Candidate.{Candidate}
pub use Rattle.std.proofs.Common.{All, Bool, Err, IfErr, List, None, Ok, Option, Result, Some, [], ap, append-nil}
pub use Rattle.std.proofs.Common.{arith, false, get_or, inl, inr, length, length-append, map, nat_lt, refl}
pub use Rattle.std.proofs.Common.{string_bytes, subst, sym, take, true, true≢false, ℕ, ℤ, ◌++◌, ◌+◌, ◌<◌, ◌∙◌, ◌∷◌, ◌≡◌}
pub use Rattle.std.proofs.Common.{◌≢◌, ◌≤◌}
pub use Rattle.std.proofs.lemmas.List.{append_cancel_left}
pub use Rattle.std.proofs.lemmas.List.Concat.{flat_map-cons}
pub use Rattle.std.proofs.lemmas.List.Elements.{All-append, All-map, All-nil, All-same}
pub use Rattle.std.specs.Prelude.{OnErr, OnOk, if◌then◌else◌, is_some, ◌⊎◌}
pub use Rattle.tnc_base.specs.Faults.{HasRisen}
pub use Rattle.tnc_base.specs.Streams.{WrotePart, SinkTold, SourceTold}
pub use Rattle.tnc_bench.specs.Reported.{IsReportOf}
pub use Rattle.tnc_bench.specs.declared.fault.CommandFault.{CommandFault}
pub use Rattle.tnc_call.specs.declared.call_words.CallWords.{CallWords}
pub use Rattle.tnc_decode.specs.Audio.{audio_fault, samples_read}
pub use Rattle.tnc_decode.specs.Decoded.{IsDecoded}
pub use Rattle.tnc_decode.specs.Modem.{AreHeard, modem_of, remaining}
unfoldable pub use Rattle.tnc_decode.specs.Printing.{print}
pub use Rattle.tnc_decode.specs.declared.modem.Modem.{Modem}
pub use Rattle.tnc_decode.specs.declared.modem.Modem.TheVariants.{Plain}
pub use Rattle.tnc_encode.proofs.EndedLemmas.{fault_kept}
unfoldable pub use Rattle.tnc_encode.specs.Encoded.{encoded, encoded_before, fault_of_whole}
pub use Rattle.tnc_encode.specs.Encoded.{first_of, keeps_frames, length_fault, samples_sent, transmissions}
pub use Rattle.tnc_encode.specs.Frames.{frames_of_input}
pub use Rattle.tnc_forms.specs.Reading.{input_limit}
pub use Rattle.tnc_forms.specs.Taken.{WereRead}
pub use Rattle.tnc_forms.specs.declared.fault.Fault.{Fault}
pub use Rattle.tnc_forms.specs.declared.fault.InputFault.{InputFault}
pub use Rattle.tnc_forms.specs.declared.fault.InputFault.TheVariants.{LongWav, TooLong}
pub use Rattle.tnc_loop.specs.declared.fault.LoopFault.{LoopFault}
pub use Rattle.tnc_main.specs.Commands.{IsFaultless, Makes, Reads, ReadsNothing, fault_of}
pub use Rattle.tnc_main.specs.EndTold.{IsEndTold}
pub use Rattle.tnc_main.specs.LiveCommands.{CanRunLive, command_of}
pub use Rattle.tnc_main.specs.Parts.{HasAtMemory, MakesPart, WritesAtEnd}
pub use Rattle.tnc_main.specs.Report.{line_of, stray_line}
pub use Rattle.tnc_main.specs.Runs.{IsCaused, Job, Leaves, Tells, Writes}
pub use Rattle.tnc_main.specs.Serving.{RunsLive, Serves, words_of}
pub use Rattle.tnc_main.specs.Status.{IsLiveCode, code_of}
pub use Rattle.tnc_main.specs.Stops.{CanRun, EndsAs, IsStopOfRun, end_of, end_of_bench, end_of_loop, status_of}
pub use Rattle.tnc_main.specs.declared.status.Status.{Status}
pub use Rattle.tnc_main.specs.declared.status.Status.TheVariants.{BadInput, BadWords, Done, NoPort, ReadFault}
pub use Rattle.tnc_main.specs.declared.status.Status.TheVariants.{WriteFault}
pub use Rattle.tnc_main.specs.declared.stop.Stop.{Stop}
pub use Rattle.tnc_main.specs.declared.stop.Stop.TheVariants.{Input, Memory, NotQuiet, Read, Spent, Stray, Write}
pub use Rattle.tnc_ports.specs.Pumped.{IsPumped}
pub use Rattle.tnc_ports.specs.SampledRun.{Outside, outside_by}
pub use Rattle.tnc_ports.specs.declared.looping.LoopEnd.{LoopEnd}
pub use Rattle.tnc_ports.specs.declared.pumping.PumpEnd.{PumpEnd}
pub use Rattle.tnc_ports.specs.declared.pumping.PumpEnd.TheVariants.{InputEnd}
pub use Rattle.tnc_ports.specs.declared.serve_words.ServeWords.{ServeWords}
pub use Rattle.tnc_words.proofs.OneCommand.{one_command}
pub use Rattle.tnc_words.specs.Commands.{Asks}
pub use Rattle.tnc_words.specs.declared.command.BenchOptions.{BenchOptions}
pub use Rattle.tnc_words.specs.declared.command.Command.{Command}
pub use Rattle.tnc_words.specs.declared.command.Command.TheVariants.{Bench, Call, Decode, Encode, Help, Loop, Record}
pub use Rattle.tnc_words.specs.declared.command.Command.TheVariants.{Serve, Show, Version}
pub use Rattle.tnc_words.specs.declared.command.DecodeWords.{DecodeWords}
pub use Rattle.tnc_words.specs.declared.command.EncodeWords.{EncodeWords}
pub use Rattle.tnc_words.specs.declared.command.LoopWords.{LoopWords}
pub use Rattle.tnc_words.specs.declared.command.RecordOptions.{RecordOptions}
pub use Rattle.tnc_words.specs.declared.command.ServeOptions.{ServeOptions}
pub use Rattle.wav_file.specs.declared.rates.Rates.{Rates}
