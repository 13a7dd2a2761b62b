-- The names that most proofs of this crate cite, passed on from one place.
pub use Rattle.frame_merge.specs.Merged.{below, merged, not_below}
pub use Rattle.frame_merge.specs.Order.{in_order, place, standing}
pub use Rattle.frame_merge.specs.declared.candidate.Candidate.{Candidate}
pub use Rattle.hdlc_framer.specs.Frames.{EndsFrame}
pub use Rattle.hf_modem.proofs.CandidateLemmas.{end_within}
pub use Rattle.hf_modem.specs.Candidates.{AreCandidatesAfter, IsCandidate, end_sample}
pub use Rattle.hf_modem.specs.Held.{BankStandsFor, HeldBank as HeldHfBank}
pub use Rattle.hf_sensitive.specs.AddedCandidates.{EndsAtPlace, is_in_time}
pub use Rattle.hf_sensitive.specs.Candidates.{AreHeard, IsHeard}
pub use Rattle.hf_sensitive.specs.Found.{AddsAmong, AreAddedAmong, CanBePut, CanBePutFrom, IsAmong, least_end}
pub use Rattle.hf_sensitive.specs.HeldBanks.{AllStandFor, AreAt, HasTaken, HaveRead, HeldBank, HeldLane, HoldsFrameOf}
pub use Rattle.hf_sensitive.specs.HeldBanks.{IsLastPlace, LaneStandsFor, StandsFor}
unfoldable pub use Rattle.hf_sensitive.specs.Lanes.{is_read_at, lane_tones}
pub use Rattle.hf_sensitive.specs.Lanes.{bank_of, delay_in, delay_of, first_lane, is_read_in, lane_bits, rhythm_of}
pub use Rattle.hf_sensitive.specs.Lanes.{tone_back, tone_read, tones}
pub use Rattle.hf_sensitive.specs.MergedItems.{AreMergedBetween, settled}
pub use Rattle.hf_tracking.specs.Heard.{heard, places_in, windows_in}
pub use Rattle.hf_tracking.specs.Held.{HasTaken as TonesHaveTaken, HeldTones}
pub use Rattle.nrzi_bits.specs.Line.{bits_of}
pub use Rattle.sensitive_receiver.specs.AddedCandidates.{HasPath}
pub use Rattle.slicer_bank.proofs.CandidateLemmas.{AllPairs-append}
pub use Rattle.slicer_bank.proofs.MergedLemmas.{next_is}
pub use Rattle.slicer_bank.proofs.OrderingLemmas.{below_more}
pub use Rattle.std.proofs.Common.{Bool, List, [], ap, append_assoc, arith, drop, false, get_or, inl, inr, length}
pub use Rattle.std.proofs.Common.{length-append, map, pos, refl, replicate, set, subst, suc, sym, take, true, zero, ℕ}
pub use Rattle.std.proofs.Common.{ℤ, ◌%◌, ◌*◌, ◌++◌, ◌+◌, ◌-◌, ◌/◌, ◌<◌, ◌^◌, ◌∙◌, ◌∷◌, ◌≡◌, ◌≢◌, ◌≤◌, ◌⊎◌}
pub use Rattle.std.proofs.lemmas.Bool.{and_parts, cases_eq, cases_lt, eqb-true, leb-true, lt-ltb, ltb-true, true≢false}
pub use Rattle.std.proofs.lemmas.Int.{to_z-of_z}
pub use Rattle.std.proofs.lemmas.List.{append-nil, get_or_append_left, length-map, length-set}
pub use Rattle.std.proofs.lemmas.List.{length_push}
pub use Rattle.std.proofs.lemmas.List.Elements.{All-append, All-cons, All-filter, All-head, All-nil, All-tail}
pub use Rattle.std.proofs.lemmas.List.Elements.{All-weaker, Contains-append_left, Contains-append_right, filter_passes}
pub use Rattle.std.proofs.lemmas.List.Kept.{AllPairs-filter}
pub use Rattle.std.proofs.lemmas.Result.{IfOk-weaker, on_ok_weaker}
pub use Rattle.std.specs.List.{All, AllPairs}
pub use Rattle.std.specs.Prelude.{IfOk, fold, if◌then◌else◌, nat_le, nat_lt, not, ◌&&◌, ◌==◌}
pub use Rattle.tone_table.specs.declared.tone.Tone.{Tone}
unfoldable pub use Rattle.tone_tracking.specs.Clock.{clock_after}
pub use Rattle.tone_tracking.specs.Clock.{changes, is_reading, reads}
pub use Rattle.tone_tracking.specs.HeldTracker.{tone_before}
pub use Rattle.tone_tracking.specs.declared.bit_clock.Pull.{Pull}
pub use Rattle.tone_tracking.specs.declared.bit_clock.Pull.TheVariants.{Fast, Slow}
pub use mir.Syntax.{w16}
