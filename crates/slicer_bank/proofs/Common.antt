-- The names that most proofs of this crate cite, passed on from one place.
pub use Rattle.frame_merge.proofs.Forgetting.{below_then_rest}
pub use Rattle.frame_merge.proofs.Merging.{merged-rising}
pub use Rattle.frame_merge.proofs.Ordering.{rising_ends}
pub use Rattle.frame_merge.specs.Held.{Held, least}
pub use Rattle.frame_merge.specs.Merged.{below, merged, not_below}
pub use Rattle.frame_merge.specs.Order.{IsInOrder, in_order, place, standing}
pub use Rattle.frame_merge.specs.declared.candidate.Candidate.{Candidate}
pub use Rattle.hdlc_framer.proofs.DeframerLemmas.{frame_by_test}
pub use Rattle.hdlc_framer.proofs.FrameEnds.{frame_told}
pub use Rattle.hdlc_framer.specs.Carrier.{HoldsCarrier}
pub use Rattle.hdlc_framer.specs.Events.{EventAt}
unfoldable pub use Rattle.hdlc_framer.specs.Frames.{frame_bits}
pub use Rattle.hdlc_framer.specs.Frames.{EndsFrame}
pub use Rattle.hdlc_framer.specs.Held.{HoldsFrame, flags_asked}
pub use Rattle.hdlc_framer.specs.Stuffing.{flag}
pub use Rattle.hdlc_framer.specs.contracts.event.Event.{the_type}
pub use Rattle.hdlc_framer.specs.declared.event.Event.{Event}
pub use Rattle.hdlc_framer.specs.declared.event.Event.TheVariants.{Frame}
pub use Rattle.nrzi_bits.specs.Line.{bits_of}
pub use Rattle.offset_slicers.proofs.WindowLemmas.{length-bits, length-tones_at}
unfoldable pub use Rattle.offset_slicers.specs.Decision.{tone_of}
pub use Rattle.offset_slicers.specs.Held.{offset_from}
unfoldable pub use Rattle.offset_slicers.specs.Windows.{bits, tones_at, window_at}
pub use Rattle.offset_slicers.specs.Windows.{EndsWindow, windows_in}
pub use Rattle.sample_ring.specs.Ends.{GoesForward, position_of, reader_ring, reads_of, record_of, ring_id, ring_len}
pub use Rattle.sample_ring.specs.Record.{answer, next}
pub use Rattle.sample_ring.specs.declared.got.Got.{Got}
pub use Rattle.sample_ring.specs.declared.got.Got.TheVariants.{Empty, End, Gap, Item}
pub use Rattle.sample_ring.specs.declared.reader.Reader.{Reader}
pub use Rattle.slicer_bank.specs.Busy.{HearsCarrier}
pub use Rattle.slicer_bank.specs.Candidates.{AreCandidates, AreCandidatesAfter, IsCandidate}
pub use Rattle.slicer_bank.specs.Heard.{Adds, AreOfWindows, HearsAlone, LaneHears, LanesKeep, LanesKeepFit}
pub use Rattle.slicer_bank.specs.Heard.{candidate_at}
pub use Rattle.slicer_bank.specs.HeardOnRing.{IsBusyOnRing, IsHeardIn, IsHeardOnRing, lane_of, lane_positions}
pub use Rattle.slicer_bank.specs.Held.{AsksFor, HeldBank, HeldLane, LaneStandsFor, LanesStandFor, last_seven, silence}
pub use Rattle.slicer_bank.specs.HeldDecoder.{HeldDecoder, StandsFor}
pub use Rattle.slicer_bank.specs.Merging.{AllPast, CanBePut, CanBePutPast}
pub use Rattle.slicer_bank.specs.RingJobs.{AreHeardPast, AreInPlace, EndsWithGot, IsAlike, IsTaken, LanesAreReady}
pub use Rattle.slicer_bank.specs.RingJobs.{MadeTurn}
pub use Rattle.slicer_bank.specs.RingLanes.{HeldRingBank, LaneListens, LanesListen, answers_by, answers_of, readers_of}
pub use Rattle.slicer_bank.specs.RingTurns.{AreForward, AreGrown, BringsOnRing, IsTurn, Leads, MeetsEnd, gaps_of}
pub use Rattle.slicer_bank.specs.StretchLanes.{EndsLast, StretchStandsFor}
pub use Rattle.slicer_bank.specs.Stretches.{Stretch, end_of, last_stretch, position_after, stretch_after, stretch_bits}
pub use Rattle.slicer_bank.specs.Stretches.{with_sample}
pub use Rattle.slicer_bank.specs.ToneLanes.{HeldToneLane, ToneLaneStandsFor}
pub use Rattle.slicer_bank.specs.declared.advance.LaneGap.{LaneGap}
pub use Rattle.slicer_bank.specs.declared.ring_lane.RingLane.{RingLane}
pub use Rattle.std.proofs.Common.{Bool, List, None, Option, Some, [], ap, append_assoc, arith, drop, false, get_or}
pub use Rattle.std.proofs.Common.{get_or-set_other, get_or-set_same, inl, inr, length, length-append, length-drop, map}
pub use Rattle.std.proofs.Common.{of_z, pos, refl, replicate, rules, set, subst, suc, sym, take, to_z, true, zero, ℕ, ℤ}
pub use Rattle.std.proofs.Common.{⊎_elim, ◌%◌, ◌&&◌, ◌*◌, ◌++◌, ◌+◌, ◌-◌, ◌/◌, ◌<◌, ◌^◌, ◌∙◌, ◌∷◌, ◌≡◌, ◌≢◌, ◌≤◌, ◌⊎◌}
pub use Rattle.std.proofs.Math.Seq.{drop-append-add, get_or-append_seam, take-append_seam}
pub use Rattle.std.proofs.lemmas.Bool.{cases_eq, cases_lt, false≢true, true≢false}
pub use Rattle.std.proofs.lemmas.Bool.Decides.{Decides-eqb}
pub use Rattle.std.proofs.lemmas.Int.{to_z-of_z}
pub use Rattle.std.proofs.lemmas.List.{append-nil, append_cancel_left, drop-append-le, drop-drop, get_or-append-add}
pub use Rattle.std.proofs.lemmas.List.{get_or-map, get_or_append_left, get_or_default, length-map, length-replicate}
pub use Rattle.std.proofs.lemmas.List.{length-set, length-take-le, length_push, map-append, nil_from_length, take_all}
pub use Rattle.std.proofs.lemmas.List.{take_more}
pub use Rattle.std.proofs.lemmas.List.Elements.{All-append, All-cons, All-filter, All-head, All-map, All-nil, All-push}
pub use Rattle.std.proofs.lemmas.List.Elements.{All-tail, All-weaker, Contains-append_cases, Contains-append_left}
pub use Rattle.std.proofs.lemmas.List.Elements.{Contains-append_right, filter_passes}
pub use Rattle.std.proofs.lemmas.List.Kept.{AllPairs-filter}
pub use Rattle.std.proofs.lemmas.List.Sorted.{All-permutation, Contains-permutation, IsNonDecreasingBy-from_sort_by_key}
pub use Rattle.std.proofs.lemmas.List.Sums.{fold-append}
pub use Rattle.std.proofs.lemmas.Map.Made.{IsDistinct-from_AllPairs}
pub use Rattle.std.proofs.lemmas.Result.{IfOk-weaker}
pub use Rattle.std.specs.List.{All, AllPairs, Contains, IsDistinct, flat_map, list_all}
pub use Rattle.std.specs.List.Sorted.{IsNonDecreasingBy, IsPermutation}
pub use Rattle.std.specs.Prelude.{IfOk, IsTrue, OnOk, fold, nat_le, vec_capacity, vec_len, ◌↔◌}
pub use Rattle.tone_table.specs.declared.tone.Tone.{Tone}
pub use denote.Enum.Bare.{sameb}
pub use mir.Syntax.{w16}
