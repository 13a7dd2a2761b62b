-- The names that most proofs of this crate cite, passed on from one place.
pub use Rattle.frame_merge.specs.declared.candidate.Candidate.{Candidate}
pub use Rattle.sample_ring.specs.Ends.{position_of, reader_ring, reads_of, ring_id, ring_len}
pub use Rattle.sample_ring.specs.Record.{answer}
pub use Rattle.sample_ring.specs.declared.got.Got.{Got}
pub use Rattle.sample_ring.specs.declared.got.Got.TheVariants.{Empty, End, Gap, Item}
pub use Rattle.sample_ring.specs.declared.reader.Reader.{Reader}
pub use Rattle.sample_ring.specs.declared.view.Entry.{Entry}
pub use Rattle.slicer_bank.proofs.StretchLemmas.{last-more, leads_more}
pub use Rattle.slicer_bank.specs.RingJobs.{is_end}
pub use Rattle.slicer_bank.specs.RingLanes.{answers_of}
pub use Rattle.slicer_bank.specs.RingTurns.{IsReading, Leads, MeetsEnd, gaps_of, reads_on}
pub use Rattle.slicer_bank.specs.Stretches.{Stretch, last_stretch, stretch_after, stretch_at, stretches}
pub use Rattle.slicer_bank.specs.Stretches.{stretches_from, with_sample}
pub use Rattle.slicer_bank.specs.declared.advance.LaneGap.{LaneGap}
pub use Rattle.std.proofs.Common.{Bool, List, [], ap, append_assoc, arith, false, fold, get_or, inl, inr, length, map, refl}
pub use Rattle.std.proofs.Common.{subst, suc, sym, true, zero, ℕ, ℤ, ⊎_elim, ◌++◌, ◌+◌, ◌<◌, ◌^◌, ◌↔◌, ◌∙◌}
pub use Rattle.std.proofs.Common.{◌∷◌, ◌≡◌, ◌≢◌, ◌≤◌, ◌⊎◌}
pub use Rattle.std.proofs.lemmas.Bool.{true≢false}
pub use Rattle.std.proofs.lemmas.List.{append-nil, length_push, map-append}
pub use Rattle.std.proofs.lemmas.List.Elements.{All-append, All-nil, All-push, All-tail}
pub use Rattle.std.specs.List.{All}
pub use Rattle.stretch_reader.specs.EachHeard.{AreAllIn, AreApart, AreMore, IsIn}
pub use Rattle.stretch_reader.specs.HeardInStretches.{AreDue, AreDueBy, AreHeardIn, AreHeardOf, AreSettledIn}
pub use Rattle.stretch_reader.specs.HeardInStretches.{ended_from, ended_stretches}
pub use Rattle.stretch_reader.specs.Turns.{Brings, Finishes, HaveHeard, HearsWith, HoldBut, ListenBut}
pub use Rattle.stretch_reader.specs.Turns.{MadeTurn, Took, WentOn, with_samples}
pub use Rattle.stretch_reader.specs.declared.turn.Turn.{Turn}
