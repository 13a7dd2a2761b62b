-- The names that most proofs of this crate cite, passed on from one place.
pub use Rattle.fx25_blocks.specs.BlockEnds.{EndsBlock}
pub use Rattle.fx25_blocks.specs.UnsureBlocks.{EndsUnsureBlock}
pub use Rattle.fx25_blocks.specs.Tags.{IsTag, block_length}
unfoldable pub use Rattle.fx25_blocks.specs.Tags.{check_count, data_count}
pub use Rattle.fx25_receiver.specs.Heard.{AreHeard, EndsInBlock, EndsPlainly, EndsWithBits, IsHeard, standing}
unfoldable pub use Rattle.fx25_receiver.specs.Certainty.{certainties}
pub use Rattle.fx25_receiver.specs.Hearing.{AreHeardBelow, EndsLast, HasTakenBelow, IsAt, IsBelow}
pub use Rattle.fx25_receiver.specs.Held.{HasHeard, HasTaken, HeldLane, IsFresh, Keeps, LaneHasTaken, LaneStandsFor, LanesStandFor, not_past}
pub use Rattle.fx25_receiver.specs.Known.{KnowsNumbers}
pub use Rattle.fx25_receiver.specs.Merged.{AreMerged, merged, merged_after, reach, repeats}
pub use Rattle.fx25_receiver.specs.declared.heard.Heard.{Heard}
pub use Rattle.fx25_receiver.specs.declared.hearing.Place.{Place}
pub use Rattle.hdlc_framer.specs.Frames.{EndsFrame}
pub use Rattle.hdlc_framer.specs.BitOrder.{sent_bits}
pub use Rattle.nrzi_bits.specs.Line.{bits_of, last_tone}
pub use Rattle.offset_slicers.proofs.WindowLemmas.{bits-append, length-bits}
unfoldable pub use Rattle.offset_slicers.specs.Windows.{bits, tones_at}
pub use Rattle.offset_slicers.specs.Windows.{EndsWindow, windows_in}
pub use Rattle.slicer_bank.specs.Held.{last_seven, silence}
pub use Rattle.std.proofs.Common.{Bool, List, [], ap, append_assoc, arith, cond, drop, false, get_or, inl, inr, leb}
pub use Rattle.std.proofs.Common.{length}
pub use Rattle.std.proofs.Common.{length-append, map, refl, replicate, rules, subst, suc, sym, take, true, zero}
pub use Rattle.std.proofs.Common.{ℕ, ℤ, ◌%◌, ◌&&◌, ◌*◌, ◌++◌, ◌+◌, ◌-◌, ◌/◌, ◌<◌, ◌||◌, ◌∙◌, ◌∷◌, ◌≡◌, ◌≢◌, ◌≤◌, ◌⊎◌}
pub use Rattle.std.proofs.Math.Bool.{and-false}
pub use Rattle.std.proofs.Math.Seq.{append_snoc}
pub use Rattle.std.proofs.lemmas.Bool.{cases_eq, cases_lt, false≢true, le-leb, lt-leb, true≢false}
pub use Rattle.std.proofs.lemmas.List.{append-nil, get_or-append-add, get_or_append_left, length_push, take_all}
pub use Rattle.std.proofs.lemmas.List.Elements.{All-append, All-cons, All-head, All-nil, All-push, All-tail, All-weaker}
pub use Rattle.std.proofs.lemmas.List.Elements.{Contains-append_left, Contains-append_right, filter-append}
pub use Rattle.std.specs.List.{All, AllPairs, Contains, list_any}
pub use Rattle.std.specs.Prelude.{filter, if◌then◌else◌, nat_le, nat_lt}
pub use Rattle.tone_table.specs.declared.tone.Tone.{Tone}
