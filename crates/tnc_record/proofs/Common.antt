-- The names that most proofs of this crate cite, passed on from one place.
pub use Rattle.frame_merge.specs.declared.candidate.Candidate.{Candidate}
pub use Rattle.ring_receiver.specs.Readers.{readers_wanted}
pub use Rattle.ring_recorder.specs.Held.{HeldRecorder, StandsFor}
pub use Rattle.ring_recorder.specs.Recording.{answers_of, has_ended, items, losses}
pub use Rattle.ring_recorder.specs.Tiling.{Tile}
pub use Rattle.sample_ring.specs.Ends.{reads_of, record_of, ring_len}
pub use Rattle.sample_ring.specs.Record.{StandsIn, answer}
pub use Rattle.sample_ring.specs.declared.got.Got.{Got}
pub use Rattle.sample_ring.specs.declared.reader.Reader.{Reader}
pub use Rattle.sample_ring.specs.declared.view.Entry.{Entry}
pub use Rattle.slicer_bank.specs.HeardOnRing.{lane_of}
pub use Rattle.slicer_bank.specs.declared.advance.LaneGap.{LaneGap}
pub use Rattle.std.proofs.Common.{List, [], ap, arith, inl, inr, length, map, refl, subst, suc, sym, take, ℕ, ◌++◌, ◌<◌}
pub use Rattle.std.proofs.Common.{◌∙◌, ◌∷◌, ◌≡◌, ◌≤◌}
pub use Rattle.std.proofs.lemmas.Bool.{false≢true}
pub use Rattle.std.proofs.lemmas.Grind.{flat_map-append}
pub use Rattle.std.proofs.lemmas.List.{append-nil, map-append}
pub use Rattle.std.proofs.lemmas.List.Elements.{All-cons, All-head, All-nil, All-tail}
pub use Rattle.std.specs.Prelude.{All, Bool, Err, Ok, Result, Some, false, true, ℤ, ◌&&◌}
pub use Rattle.tnc_base.specs.Streams.{SinkTold}
pub use Rattle.tnc_ports.proofs.LiveWrites.{puts_puts}
pub use Rattle.tnc_ports.specs.SampledWrites.{Puts}
pub use Rattle.tnc_ports.specs.ServeRun.{ring_cells}
pub use Rattle.tnc_ports.specs.declared.looping.LoopEnd.{LoopEnd}
pub use Rattle.tnc_record.specs.HeldListening.{IsAnswered, IsCutOff, ReadsRing, Runs, Turns}
pub use Rattle.tnc_record.specs.RecordText.{FrameLine, GapLine, report_text, text_of_frames, text_of_gaps}
pub use Rattle.tnc_record.specs.RecordText.{text_of_losses, turn_lines}
pub use Rattle.tnc_record.specs.RecordTurns.{AreTurns, HearsUnlessOver, IsRun, Recording, new_recording}
pub use Rattle.tnc_record.specs.declared.listening.Listening.{Listening}
pub use Rattle.tnc_record.specs.declared.recording.RecordWords.{RecordWords}
