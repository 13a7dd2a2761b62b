-- The names that most proofs of this crate cite, passed on from one place.
pub use Rattle.frame_merge.specs.Merged.{below, merged}
pub use Rattle.frame_merge.specs.Order.{in_order, place, standing}
pub use Rattle.frame_merge.specs.declared.candidate.Candidate.{Candidate}
pub use Rattle.slicer_bank.proofs.CandidateLemmas.{end_within}
pub use Rattle.slicer_bank.proofs.MergingLemmas.{HasPut}
pub use Rattle.slicer_bank.proofs.OrderingLemmas.{below_more}
pub use Rattle.slicer_bank.specs.Candidates.{AreCandidatesAfter, IsCandidate}
pub use Rattle.slicer_bank.specs.Held.{HeldBank}
pub use Rattle.slicer_bank.specs.Merging.{AllPast}
pub use Rattle.std.proofs.Common.{List, Some, [], ap, append-nil, append_assoc, arith, drop, false, get_or, inl, inr}
pub use Rattle.std.proofs.Common.{length, length-append, map, pos, refl, replicate, subst, suc, sym, take, zero, ℕ, ℤ}
pub use Rattle.std.proofs.Common.{◌*◌, ◌++◌, ◌+◌, ◌-◌, ◌/◌, ◌<◌, ◌^◌, ◌∙◌, ◌∷◌, ◌≡◌, ◌≤◌}
pub use Rattle.std.proofs.lemmas.Bool.{cases_lt, ltb-true}
pub use Rattle.std.proofs.lemmas.List.{get_or-map, length-map, map-append, take_more}
pub use Rattle.std.proofs.lemmas.List.Elements.{All-append, All-nil}
pub use Rattle.std.proofs.lemmas.Result.{IfOk-weaker}
pub use Rattle.std.specs.List.{All}
pub use Rattle.std.specs.Prelude.{IfOk, OnOk, fold, nat_lt, option_map}
pub use Rattle.wide_input.specs.Candidates.{AreWideCandidates, IsWideCandidate, in_stream}
pub use Rattle.wide_input.specs.Held.{AreAlike, HasFound, HaveTaken, HearsBlock, HeldStream, HeldWide, IsAbreast}
pub use Rattle.wide_input.specs.Held.{KeepsInTime, StandsFor, StreamStandsFor, TakesPart, brought, found_by, items_of}
pub use Rattle.wide_input.specs.Held.{next_skipped}
pub use Rattle.wide_input.specs.MergedItems.{AreWideMergedBetween, AreWideRest}
pub use Rattle.wide_input.specs.Streams.{least_count, stream}
