-- The names that most proofs of this crate cite, passed on from one place.
pub use Rattle.ax25_address.proofs.FieldLemmas.{whole_field}
pub use Rattle.ax25_address.specs.AddressField.{IsField}
pub use Rattle.ax25_address.specs.Callsign.{Callsign}
pub use Rattle.ax25_address.specs.FramePath.{field_at}
pub use Rattle.frame_merge.specs.Merged.{below, merged, not_below}
pub use Rattle.frame_merge.specs.Order.{in_order, place, standing}
pub use Rattle.frame_merge.specs.declared.candidate.Candidate.{Candidate}
pub use Rattle.hdlc_framer.specs.Frames.{EndsFrame}
pub use Rattle.nrzi_bits.specs.Line.{bits_of}
pub use Rattle.sensitive_receiver.specs.AddedCandidates.{EndsAtPlace, HasPath, is_in_time}
pub use Rattle.sensitive_receiver.specs.Candidates.{AreHeard, IsHeard}
pub use Rattle.sensitive_receiver.specs.Found.{AddsAmong, AddsAt, AddsIn, AreAddedBetween, AreAddedIn, HasRoomFrom}
pub use Rattle.sensitive_receiver.specs.Hearing.{LanesHear}
pub use Rattle.sensitive_receiver.specs.HeldLanes.{HeldLane, LaneStandsFor}
pub use Rattle.sensitive_receiver.specs.HeldList.{HasDecided, HasRead, HeldList, IsLastPlace, LanesAreAt, LanesHaveRead, LastIsRead}
unfoldable pub use Rattle.sensitive_receiver.specs.Lanes.{lane_tones, readings_at}
pub use Rattle.sensitive_receiver.specs.Lanes.{delay_of, is_read_at, is_read_by, lane_bits, list_of, tone_back}
pub use Rattle.sensitive_receiver.specs.Lanes.{Readings, added_places, tone_read, tones}
pub use Rattle.sensitive_receiver.specs.ListLanes.{IsSlowOn, first_slow, lane_of}
pub use Rattle.sensitive_receiver.specs.MergedItems.{settled}
pub use Rattle.sensitive_receiver.specs.declared.decided_place.DecidedPlace.{DecidedPlace}
pub use Rattle.slicer_bank.proofs.CandidateLemmas.{AllPairs-append, end_within}
pub use Rattle.slicer_bank.proofs.OrderingLemmas.{below_more}
pub use Rattle.slicer_bank.specs.Candidates.{AreCandidatesAfter, IsCandidate}
pub use Rattle.slicer_bank.specs.Held.{HeldBank}
pub use Rattle.std.proofs.Common.{Bool, List, [], ap, append_assoc, arith, drop, false, get_or, inl, inr, length}
pub use Rattle.std.proofs.Common.{length-append, map, pos, refl, replicate, set, subst, suc, sym, take, true, zero, ℕ}
pub use Rattle.std.proofs.Common.{ℤ, ◌%◌, ◌*◌, ◌++◌, ◌+◌, ◌-◌, ◌/◌, ◌<◌, ◌^◌, ◌∙◌, ◌∷◌, ◌≡◌, ◌≢◌, ◌≤◌, ◌⊎◌}
pub use Rattle.std.proofs.lemmas.Bool.{and_parts, cases_eq, cases_lt, eqb-true, leb-true, lt-ltb, ltb-true, true≢false}
pub use Rattle.std.proofs.lemmas.Int.{to_z-of_z}
pub use Rattle.std.proofs.lemmas.List.{append-nil, get_or-map, get_or_append_left, length-map, length-take-le}
pub use Rattle.std.proofs.lemmas.List.{length_push, take-take}
pub use Rattle.std.proofs.lemmas.List.Elements.{All-append, All-cons, All-filter, All-head, All-nil, All-tail}
pub use Rattle.std.proofs.lemmas.List.Elements.{All-weaker, Contains-append_left, Contains-append_right, filter_passes}
pub use Rattle.std.proofs.lemmas.List.Kept.{AllPairs-filter}
pub use Rattle.std.proofs.lemmas.Result.{IfOk-weaker, on_ok_weaker}
pub use Rattle.std.specs.List.{All, AllPairs}
pub use Rattle.std.specs.Prelude.{IfOk, fold, if◌then◌else◌, nat_le, nat_lt, not, ◌&&◌, ◌==◌}
pub use Rattle.tone_table.specs.declared.tone.Tone.{Tone}
unfoldable pub use Rattle.tone_tracking.specs.Clock.{clock_after}
pub use Rattle.tone_tracking.specs.Clock.{changes, reads}
pub use Rattle.tone_tracking.specs.Heard.{heard, places_in}
pub use Rattle.tone_tracking.specs.HeldLists.{HeldLists}
pub use Rattle.tone_tracking.specs.HeldRing.{HeldRing}
pub use Rattle.tone_tracking.specs.HeldTracker.{tone_before}
pub use Rattle.tone_tracking.specs.WithoutMean.{without_mean}
pub use Rattle.tone_tracking.specs.declared.bit_clock.Pull.{Pull}
pub use Rattle.tone_tracking.specs.declared.bit_clock.Pull.TheVariants.{Fast, Slow}
pub use Rattle.tone_tracking.specs.declared.reach.Reach.{Reach}
pub use Rattle.tone_tracking.specs.declared.reach.Reach.TheVariants.{Alone, Far, Near}
pub use mir.Syntax.{w16}
