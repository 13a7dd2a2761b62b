-- The names that most proofs of this crate cite, passed on from one place.
unfoldable pub use Rattle.hdlc_framer.specs.BitOrder.{octet_bits}
pub use Rattle.hdlc_framer.specs.BitOrder.{low_bits, number_of, sent_bits}
unfoldable pub use Rattle.hdlc_framer.specs.Body.{body}
pub use Rattle.hdlc_framer.specs.Body.{flags, joined}
pub use Rattle.hdlc_framer.specs.Carrier.{HoldsCarrier, IsLost, IsQuiet}
unfoldable pub use Rattle.hdlc_framer.specs.CheckSequence.{fcs_of}
pub use Rattle.hdlc_framer.specs.Counted.{left_after, stuffed_from}
pub use Rattle.hdlc_framer.specs.Events.{EventAt}
unfoldable pub use Rattle.hdlc_framer.specs.Frames.{frame_bits, with_fcs}
pub use Rattle.hdlc_framer.specs.Frames.{EndsAbort, EndsFlag, EndsFrame, IsFrame, run_of_ones}
unfoldable pub use Rattle.hdlc_framer.specs.Held.{line_after}
pub use Rattle.hdlc_framer.specs.Held.{Held, HoldsFrame, Line, StandsFor, content_after_zero, flag_start, line_of}
pub use Rattle.hdlc_framer.specs.Held.{new_line, next_line, open_line}
pub use Rattle.hdlc_framer.specs.HeldCarrier.{CarrierStandsFor, HeldCarrier, next_carrier}
pub use Rattle.hdlc_framer.specs.LineEvents.{ClosesFrame, EndsOnZero, LineEvent}
unfoldable pub use Rattle.hdlc_framer.specs.Register.{after_octet, shifted, step_of}
pub use Rattle.hdlc_framer.specs.Stuffing.{flag, stuffed}
pub use Rattle.hdlc_framer.specs.declared.event.Event.{Event}
pub use Rattle.hdlc_framer.specs.declared.event.Event.TheVariants.{Abort, Flag, Frame}
pub use Rattle.std.proofs.Common.{Bool, List, Some, [], add-one, ap, append-nil, append_assoc, arith, bit_and, bit_xor}
pub use Rattle.std.proofs.Common.{cond, drop, eqb, false, get_or, inl, inr, length, length-append, ltb, min, not, refl}
pub use Rattle.std.proofs.Common.{replicate, subst, suc, sym, take, true, zero, ℕ, ◌%◌, ◌*◌, ◌++◌, ◌+◌, ◌-◌, ◌/◌, ◌<◌}
pub use Rattle.std.proofs.Common.{◌^◌, ◌↔◌, ◌∙◌, ◌∷◌, ◌≡◌, ◌≤◌}
pub use Rattle.std.proofs.Math.Nat.{pow-suc}
pub use Rattle.std.proofs.lemmas.Bool.{cases_Bool, cases_eq, cases_lt, eq-eqb, eqb-false, eqb-true, false≢true, le-ltb}
pub use Rattle.std.proofs.lemmas.Bool.{lt-ltb, ne_eqb, true≢false}
pub use Rattle.std.proofs.lemmas.List.{length-take-le, length_push, take_all, take_more}
pub use Rattle.std.proofs.lemmas.List.Concat.{flat_map-append}
pub use Rattle.std.proofs.lemmas.List.Sums.{fold-append}
pub use Rattle.std.proofs.lemmas.Nat.{and_mask}
pub use Rattle.std.specs.List.{All, fold}
