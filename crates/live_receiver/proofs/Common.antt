-- The names that most proofs of this crate cite, passed on from one place.
pub use Rattle.frame_merge.specs.Held.{least}
pub use Rattle.frame_merge.specs.Merged.{below, merged, not_below}
pub use Rattle.frame_merge.specs.Order.{in_order, place, standing}
pub use Rattle.frame_merge.specs.declared.candidate.Candidate.{Candidate}
pub use Rattle.hf_modem.specs.Candidates.{AreCandidatesAfter, IsCandidate, end_sample}
pub use Rattle.hf_sensitive.specs.AddedCandidates.{EndsAtPlace, IsAdded}
pub use Rattle.hf_sensitive.specs.Found.{AreAddedAmong, IsAmong}
pub use Rattle.hf_sensitive.specs.HeldBanks.{AllStandFor, AreAt}
pub use Rattle.hf_tracking.specs.Heard.{places_in}
pub use Rattle.live_receiver.specs.HeardOnShortWave.{AreDue, AreHeard, AreMerged, AreRest, IsAddedInOne, IsHeardByOne}
pub use Rattle.live_receiver.specs.HeardOnShortWave.{IsHeardIn, IsHeardInOne, following, lanes_in, moved, moved_added}
pub use Rattle.live_receiver.specs.HeardOnShortWave.{placed, settled_end}
pub use Rattle.live_receiver.specs.HeldHf.{AreInStep, BanksFollow, CanCome, HasMergedHf, HeldHf, HfHears, HfListens}
pub use Rattle.live_receiver.specs.HeldHf.{HoldStretch, StandsForStretch, hf_answers, hf_of, place_of, sensitive_of_hf}
pub use Rattle.live_receiver.specs.HfTurns.{MakesHfTurn, PutsMore}
pub use Rattle.live_receiver.specs.declared.hf_lanes.HfLanes.{HfLanes}
pub use Rattle.ring_receiver.specs.declared.heard.Heard.{Heard}
pub use Rattle.sample_ring.specs.Ends.{IsNew, position_of, reader_ring, reads_of, ring_id, ring_len}
pub use Rattle.sample_ring.specs.Record.{answer}
pub use Rattle.sample_ring.specs.declared.got.Got.{Got}
pub use Rattle.sample_ring.specs.declared.reader.Reader.{Reader}
pub use Rattle.slicer_bank.proofs.CandidateLemmas.{AllPairs-append}
pub use Rattle.slicer_bank.proofs.StretchLemmas.{leads_join, leads_position, leads_up}
pub use Rattle.slicer_bank.specs.HeardOnRing.{lane_of, least_position}
pub use Rattle.slicer_bank.specs.RingLanes.{answers_of}
pub use Rattle.slicer_bank.specs.RingTurns.{IsReading, Leads, MeetsEnd}
pub use Rattle.slicer_bank.specs.Stretches.{Stretch, end_of, last_stretch, position_after, stretch_at, stretches}
pub use Rattle.slicer_bank.specs.declared.advance.LaneGap.{LaneGap}
pub use Rattle.std.proofs.Common.{Bool, List, [], ap, append_assoc, arith, false, get_or, inl, inr, length, map, refl}
pub use Rattle.std.proofs.Common.{replicate, subst, suc, sym, true, zero, ℕ, ℤ, ⊎_elim, ◌%◌, ◌*◌, ◌++◌, ◌+◌, ◌-◌, ◌/◌, ◌<◌}
pub use Rattle.std.proofs.Common.{◌^◌, ◌↔◌, ◌∙◌, ◌∷◌, ◌≡◌, ◌≢◌, ◌≤◌, ◌⊎◌}
pub use Rattle.std.proofs.Common.{length-append}
pub use Rattle.std.proofs.lemmas.Bool.{cases_lt}
pub use Rattle.std.proofs.lemmas.List.{append-nil, get_or-map, length-map, map-append}
pub use Rattle.std.proofs.lemmas.List.Elements.{All-append, All-map, All-nil, Contains-append_left}
pub use Rattle.std.proofs.lemmas.List.Elements.{Contains-append_right}
pub use Rattle.std.specs.List.{All, AllPairs, Contains}
pub use Rattle.std.specs.Option.{option_to_list}
pub use Rattle.std.specs.Prelude.{IfSome, None, Option, Some, fold, option_map}
pub use Rattle.stretch_reader.specs.EachHeard.{AreAllIn, AreApart, AreMore}
pub use Rattle.stretch_reader.specs.Turns.{HaveHeard, MadeTurn, with_samples}
pub use Rattle.stretch_reader.specs.declared.turn.Turn.{Turn}
