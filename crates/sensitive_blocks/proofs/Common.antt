-- The names that most proofs of this crate cite, passed on from one place.
pub use Rattle.fx25_blocks.specs.Tags.{IsTag, block_length}
pub use Rattle.fx25_blocks.specs.UnsureBlocks.{EndsUnsureBlock}
pub use Rattle.fx25_receiver.specs.Heard.{standing}
pub use Rattle.fx25_receiver.specs.Held.{Keeps, not_past}
pub use Rattle.fx25_receiver.specs.Merged.{merged, merged_after}
pub use Rattle.fx25_receiver.specs.declared.heard.Heard.{Heard}
pub use Rattle.hdlc_framer.specs.Frames.{EndsFrame}
pub use Rattle.nrzi_bits.specs.Line.{bits_of}
pub use Rattle.sensitive_blocks.specs.Heard.{AreHeard, AreMerged, EndsInBlock, EndsPlainly, IsHeard, IsTold, settled}
unfoldable pub use Rattle.sensitive_blocks.specs.Bits.{ends, lane_certainties, lane_tones, reads, tone_for, window_to}
pub use Rattle.sensitive_blocks.specs.Bits.{lane_bits, place_for, reads_place, reads_window}
pub use Rattle.sensitive_blocks.specs.HeldLane.{HeldLane, LaneHasRead}
pub use Rattle.sensitive_blocks.specs.Taken.{AreHeardBelow, HasTakenBelow}
pub use Rattle.sensitive_receiver.specs.AddedCandidates.{HasPath, is_in_time}
pub use Rattle.sensitive_receiver.specs.Lanes.{added_places, delay_of, is_read_at, is_read_by, list_of, tone_back}
pub use Rattle.sensitive_receiver.specs.Lanes.{tone_read, tones}
unfoldable pub use Rattle.sensitive_receiver.specs.Lanes.{readings_at}
pub use Rattle.std.proofs.Common.{Bool, List, [], ap, append_assoc, arith, drop, false, get_or, inl, inr, length}
pub use Rattle.std.proofs.Common.{length-append, map, pos, refl, set, subst, suc, sym, take, true, zero, ℕ, ℤ, ◌%◌}
pub use Rattle.std.proofs.Common.{◌*◌, ◌++◌, ◌+◌, ◌-◌, ◌/◌, ◌<◌, ◌∙◌, ◌∷◌, ◌≡◌, ◌≢◌, ◌≤◌, ◌⊎◌, add-one}
pub use Rattle.std.proofs.lemmas.Bool.{cases_eq, cases_lt, eqb-true, le-leb, le-ltb, leb-true, lt-leb, lt-ltb, ltb-true}
pub use Rattle.std.proofs.lemmas.Bool.{true≢false}
pub use Rattle.std.proofs.lemmas.List.{append-nil, get_or-append-add, get_or_append_left, length-map, length_push}
pub use Rattle.std.proofs.lemmas.List.{map-append}
pub use Rattle.std.proofs.lemmas.List.Elements.{All-append, All-cons, All-nil, All-weaker, Contains-append_left}
pub use Rattle.std.proofs.lemmas.List.Elements.{Contains-append_right, filter-append}
pub use Rattle.std.specs.List.{All, AllPairs, Contains, range_with_len}
pub use Rattle.std.specs.Prelude.{filter, if◌then◌else◌, nat_le, nat_lt, not, ◌&&◌, ◌==◌}
pub use Rattle.tone_table.specs.declared.tone.Tone.{Tone}
