-- The names that most proofs of this crate cite, passed on from one place.
pub use Rattle.fx25_blocks.specs.BlockEnds.{CarriesFrame, EndsBlock, IsRepairOf, OpensWithFrame}
pub use Rattle.fx25_blocks.specs.Blocks.{Fits, IsBlockCodeword, IsBlockOf, bits_needed}
unfoldable pub use Rattle.fx25_blocks.specs.Blocks.{data_bits, padded}
pub use Rattle.fx25_blocks.specs.NearTag.{EndsTag, IsNearTag}
pub use Rattle.fx25_blocks.specs.Tags.{IsTag, block_length, differing, tag_bits}
unfoldable pub use Rattle.fx25_blocks.specs.Tags.{bits_of_64, check_count, data_count, tag_value}
pub use Rattle.fx25_blocks.specs.Opening.{BeginsWithFrame, Leading, NoFlagWithin}
pub use Rattle.fx25_blocks.specs.Units.{FitsNoTag, IsBlockUnit, IsTagFor, IsUnit}
pub use Rattle.fx25_blocks.specs.Written.{Carries, IsWritten}
pub use Rattle.hdlc_framer.specs.BitOrder.{low_bits, number_of, sent_bits}
unfoldable pub use Rattle.hdlc_framer.specs.BitOrder.{octet_bits}
pub use Rattle.hdlc_framer.specs.Body.{flags}
unfoldable pub use Rattle.hdlc_framer.specs.Body.{body}
unfoldable pub use Rattle.hdlc_framer.specs.CheckSequence.{fcs_of}
pub use Rattle.hdlc_framer.specs.Counted.{left_after, stuffed_from}
pub use Rattle.hdlc_framer.specs.Frames.{EndsAbort, EndsFlag, EndsFrame, IsFrame, run_of_ones}
unfoldable pub use Rattle.hdlc_framer.specs.Frames.{frame_bits, with_fcs}
pub use Rattle.hdlc_framer.specs.Stuffing.{flag, stuffed}
unfoldable pub use Rattle.reed_solomon.specs.Distance.{distance}
pub use Rattle.std.proofs.Common.{Bool, List, [], add-one, ap, append-nil, append_assoc, arith, bit_and, bit_xor, cond}
pub use Rattle.std.proofs.Common.{drop, eqb, false, get_or, inl, inr, leb, length, length-append, min, refl}
pub use Rattle.std.proofs.Common.{map, replicate, subst, suc}
pub use Rattle.std.proofs.Common.{sym}
pub use Rattle.std.proofs.Common.{take, true, zero, ℕ, ◌%◌, ◌*◌, ◌++◌, ◌+◌, ◌-◌, ◌/◌, ◌<◌, ◌^◌, ◌↔◌, ◌∙◌, ◌∷◌, ◌≡◌, ◌≤◌}
pub use Rattle.std.proofs.lemmas.Bool.{agree_below_at, cases_eq, cases_lt, eqb-true, false≢true, leb-true, true≢false}
pub use Rattle.std.proofs.lemmas.List.{append_cancel_left, drop_at, length-drop, length-take, length-take-le, take_all}
pub use Rattle.std.proofs.lemmas.List.{take_at, take_more, take-append-le, take-take, same_from_push, length_push}
pub use Rattle.std.specs.List.{All}
