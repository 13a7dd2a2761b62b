-- The names that most proofs of this crate cite, passed on from one place.
pub use Rattle.frame_merge.specs.declared.candidate.Candidate.{Candidate}
pub use Rattle.fx25_receiver.specs.Held.{Held as HeldEight, StandsFor as EightStandFor}
pub use Rattle.fx25_receiver.specs.declared.heard.Heard.{Heard as HeardItem}
pub use Rattle.fx25_ring.specs.HeardInBlocks.{AreDueInBlocks, AreHeardInBlocks, AreHeardInOne, AreMergedBy, AreSettledInOne}
pub use Rattle.fx25_ring.specs.HeardInBlocks.{HearsStation, placed, settled_of}
pub use Rattle.fx25_ring.specs.Held.{AreInStep, AreTogether, BlockLanesListen, BlocksHeard, ListenTo, StandForStretch, Tells}
pub use Rattle.fx25_ring.specs.Held.{are_sensitive, block_answers, receiver_of}
pub use Rattle.fx25_ring.specs.Turns.{MakesTurn}
pub use Rattle.fx25_ring.specs.declared.lanes.Lanes.{Lanes}
pub use Rattle.hdlc_framer.specs.FrameLength.{HasFrameLength}
pub use Rattle.ring_receiver.specs.declared.heard.Heard.{Heard}
pub use Rattle.sample_ring.specs.Ends.{position_of, reader_ring, reads_of, ring_id, ring_len}
pub use Rattle.sample_ring.specs.Record.{answer}
pub use Rattle.sample_ring.specs.declared.got.Got.{Got}
pub use Rattle.sample_ring.specs.declared.reader.Reader.{Reader}
pub use Rattle.sensitive_blocks.specs.Held.{HeldReceiver as HeldAll, StandsFor as AllStandFor}
pub use Rattle.slicer_bank.proofs.StretchLemmas.{leads_join, leads_position, leads_up}
pub use Rattle.slicer_bank.specs.HeardOnRing.{lane_of, least_position}
pub use Rattle.slicer_bank.specs.RingLanes.{answers_of}
pub use Rattle.slicer_bank.specs.RingTurns.{IsReading, Leads, MeetsEnd}
pub use Rattle.slicer_bank.specs.Stretches.{Stretch, last_stretch, position_after, stretch_at, stretches}
pub use Rattle.slicer_bank.specs.declared.advance.LaneGap.{LaneGap}
pub use Rattle.std.proofs.Common.{Bool, List, [], ap, append_assoc, arith, false, get_or, inl, inr, length, map, refl}
pub use Rattle.std.proofs.Common.{subst, suc, sym, true, zero, ℕ, ℤ, ⊎_elim, ◌++◌, ◌+◌, ◌-◌, ◌<◌, ◌^◌, ◌↔◌, ◌∙◌}
pub use Rattle.std.proofs.Common.{◌∷◌, ◌≡◌, ◌≤◌, ◌⊎◌}
pub use Rattle.std.proofs.lemmas.Bool.{true≢false}
pub use Rattle.std.proofs.lemmas.List.{append-nil, length_push, map-append}
pub use Rattle.std.proofs.lemmas.List.Elements.{All-append, All-head, All-map, All-nil, All-tail}
pub use Rattle.std.specs.List.{All}
pub use Rattle.std.specs.Prelude.{Option, None, Some, is_some}
pub use Rattle.stretch_reader.specs.HeardInStretches.{AreDue, AreDueBy, AreSettledIn, ended_stretches}
pub use Rattle.stretch_reader.specs.Turns.{Brings, Finishes, HaveHeard, MadeTurn, with_samples}
pub use Rattle.stretch_reader.specs.declared.turn.Turn.{Turn}
