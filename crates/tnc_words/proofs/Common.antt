-- The names that most proofs of this crate cite, passed on from one place.
pub use Rattle.ax25_address.specs.CallText.{IsCallText}
pub use Rattle.ax25_address.specs.Callsign.{Callsign}
pub use Rattle.clap.specs.Words.{App, Row, Text, app_of, found_of, is_simple_and_free, new_app, rows_of}
pub use Rattle.std.proofs.Common.{Bool, Err, List, None, Option, Some, [], ap, arith, codes, false, inl, inr, length}
pub use Rattle.std.proofs.Common.{map, refl, string_bytes, subst, sym, take, true, ℕ, ◌&&◌, ◌++◌, ◌+◌, ◌<◌, ◌∙◌, ◌∷◌}
pub use Rattle.std.proofs.Common.{◌≡◌}
pub use Rattle.std.proofs.Math.Dec.{eqb}
pub use Rattle.std.proofs.lemmas.Bool.{eqb-false}
pub use Rattle.std.specs.Prelude.{IfOk}
pub use Rattle.std.specs.Str.{bytes_eq}
pub use Rattle.tnc_words.specs.Commands.{Asks, HasBenchOptions, HasCallOptions, HasDecodeOptions, HasEncodeOptions}
pub use Rattle.tnc_words.specs.Commands.{HasLoopOptions, HasRecordOptions, HasServeOptions, HasShowOptions, IsBench}
pub use Rattle.tnc_words.specs.Commands.{IsDecode, IsEncode, IsLoop, IsRecord, IsShow, first_word}
pub use Rattle.tnc_words.specs.Entries.{with_entries}
pub use Rattle.tnc_words.specs.Help.{IsHelp, IsVersion}
pub use Rattle.tnc_words.specs.Numbers.{HasNumber}
unfoldable pub use Rattle.tnc_words.specs.Options.{bench_faults, call_faults, decode_faults, encode_faults, loop_faults}
unfoldable pub use Rattle.tnc_words.specs.Options.{record_faults, serve_faults, show_faults}
pub use Rattle.tnc_words.specs.Rates.{HasReceiving, samples_a_second}
pub use Rattle.tnc_words.specs.Stations.{IsCallList}
pub use Rattle.tnc_words.specs.declared.command.Command.{Command}
pub use Rattle.tnc_words.specs.declared.command.Command.TheVariants.{Help, Version}
pub use Rattle.tnc_words.specs.declared.command.Receiving.{Receiving}
pub use Rattle.tnc_words.specs.declared.command.Receiving.TheVariants.{Fx25, Sensitive, SensitiveShortWave}
pub use Rattle.tnc_words.specs.declared.command.Receiving.TheVariants.{ShortWave, Standard, SensitiveFx25}
pub use Rattle.tnc_words.specs.declared.command.SampleRate.{SampleRate}
pub use Rattle.tnc_words.specs.declared.command.SampleRate.TheVariants.{Narrow}
pub use Rattle.tnc_words.specs.declared.topic.Topic.{Topic}
