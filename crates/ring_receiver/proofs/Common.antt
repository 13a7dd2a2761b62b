-- The names that most proofs of this crate cite, passed on from one place.
pub use Rattle.frame_merge.specs.Held.{least}
pub use Rattle.frame_merge.specs.Merged.{merged}
pub use Rattle.frame_merge.specs.Order.{standing}
pub use Rattle.frame_merge.specs.declared.candidate.Candidate.{Candidate}
pub use Rattle.ring_receiver.specs.AddedOnRing.{IsAddedIn, IsAddedInOne, moved}
pub use Rattle.ring_receiver.specs.AddedTurns.{AreAddedSince, MadeAddedTurn}
pub use Rattle.ring_receiver.specs.AllMerging.{BringsByAll}
pub use Rattle.ring_receiver.specs.HeardByAll.{AreDueBy, AreHeardBy, AreMergedBy, AreRestBy, IsHeardBy}
pub use Rattle.ring_receiver.specs.HeardByAll.{settled_position}
pub use Rattle.ring_receiver.specs.HeldReceiver.{AddedListens, HasMergedAll, HasMergedBy, HeldReceiver, HoldStretch}
pub use Rattle.ring_receiver.specs.HeldReceiver.{StandsForStretch}
pub use Rattle.ring_receiver.specs.ReceiverTurns.{held_of}
pub use Rattle.ring_receiver.specs.Turns.{AreGrownBy, IsTurnOf}
pub use Rattle.ring_receiver.specs.declared.added_ring.AddedRing.{AddedRing}
pub use Rattle.sample_ring.specs.Ends.{position_of, reader_ring, reads_of, ring_id, ring_len}
pub use Rattle.sample_ring.specs.Record.{answer}
pub use Rattle.sample_ring.specs.declared.got.Got.{Got}
pub use Rattle.sample_ring.specs.declared.reader.Reader.{Reader}
pub use Rattle.sample_ring.specs.declared.view.Entry.{Entry}
pub use Rattle.sample_ring.specs.declared.view.Track.{Track}
pub use Rattle.sensitive_receiver.specs.Found.{CanBePut, CanBePutFrom, IsAddedFrom}
pub use Rattle.slicer_bank.proofs.CandidateLemmas.{AllPairs-append}
pub use Rattle.slicer_bank.proofs.RingMergingLemmas.{least_rises}
pub use Rattle.slicer_bank.proofs.StretchLemmas.{leads_join, leads_position, leads_up}
pub use Rattle.slicer_bank.specs.HeardOnRing.{IsBusyOnRing, IsHeardOnRing, lane_of, least_position}
pub use Rattle.slicer_bank.specs.RingLanes.{Listens, answers_of}
pub use Rattle.slicer_bank.specs.RingMerging.{HasMerged}
pub use Rattle.slicer_bank.specs.RingTurns.{AreGrown, BringsOnRing, IsTurn, Leads, gaps_of}
pub use Rattle.slicer_bank.specs.Stretches.{Stretch, end_of, last_stretch, position_after, stretch_at, stretches}
pub use Rattle.slicer_bank.specs.declared.advance.LaneGap.{LaneGap}
pub use Rattle.std.proofs.Common.{Bool, List, [], ap, append_assoc, arith, false, get_or, get_or-append-add, inl, inr}
pub use Rattle.std.proofs.Common.{length, length-append, map, refl, replicate, subst, suc, sym, take, true, zero, ℕ, ℤ}
pub use Rattle.std.proofs.Common.{⊎_elim, ◌&&◌, ◌++◌, ◌+◌, ◌-◌, ◌<◌, ◌^◌, ◌↔◌, ◌∙◌, ◌∷◌, ◌≡◌, ◌≢◌, ◌≤◌, ◌⊎◌}
pub use Rattle.std.proofs.Math.Seq.{get_or-append_seam}
pub use Rattle.std.proofs.lemmas.Bool.{cases_lt}
pub use Rattle.std.proofs.lemmas.List.{append-nil, get_or-replicate, get_or_append_left, length-map, length_push}
pub use Rattle.std.proofs.lemmas.List.{map-append, nil_from_length}
pub use Rattle.std.proofs.lemmas.List.Elements.{All-append, All-map, All-nil, All-push, Contains-append_left}
pub use Rattle.std.proofs.lemmas.List.Elements.{Contains-append_right}
pub use Rattle.std.proofs.lemmas.List.Sums.{fold-append}
pub use Rattle.std.specs.List.{All, AllPairs, Contains}
pub use Rattle.std.specs.Prelude.{None, Some, fold, min, vec_capacity, vec_len}
pub use Rattle.stretch_reader.specs.EachHeard.{AreAllIn, AreApart, AreMore, IsIn}
pub use Rattle.stretch_reader.specs.Turns.{HaveHeard, with_samples}
pub use Rattle.stretch_reader.specs.declared.turn.Turn.{Turn}
