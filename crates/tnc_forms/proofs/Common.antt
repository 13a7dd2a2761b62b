-- The names that most proofs of this crate cite, passed on from one place.
pub use Rattle.hex.specs.Hex.{IsBytes, decode_of}
pub use Rattle.std.proofs.Common.{Bool, Err, List, None, Ok, Option, Result, Some, [], ap, append_assoc, arith, cond}
pub use Rattle.std.proofs.Common.{drop, false, get_or, inl, inr, le-ltb, length, length-append, lt-ltb, nat_lt, pos}
pub use Rattle.std.proofs.Common.{refl, subst, sym, take, true, true≢false, ℕ, ◌++◌, ◌+◌, ◌-◌, ◌<◌, ◌==◌, ◌∙◌, ◌∷◌, ◌≡◌}
pub use Rattle.std.proofs.Common.{◌≤◌}
pub use Rattle.std.proofs.lemmas.Bool.{cases_lt}
pub use Rattle.std.proofs.lemmas.Grind.{common_steps}
pub use Rattle.std.proofs.lemmas.List.{append-nil, length-take-le, take-append-drop, take-append-le, take_all}
pub use Rattle.std.proofs.lemmas.List.{take_more}
pub use Rattle.std.proofs.lemmas.List.Elements.{All-cons, All-nil}
pub use Rattle.std.proofs.lemmas.List.Splits.{length-slice_split, slice_split_none}
pub use Rattle.std.proofs.lemmas.Result.{err_from_is_err_and}
pub use Rattle.std.specs.List.{All, position}
pub use Rattle.std.specs.Option.{option_to_list}
pub use Rattle.std.specs.Prelude.{IfOk, OnOk, if◌then◌else◌, is_some}
pub use Rattle.std.specs.Str.Lines.{strip_carriage_return}
pub use Rattle.tnc_forms.specs.Faults.{fault_in_line, hex_fault}
pub use Rattle.tnc_forms.specs.HeldLine.{HeldLine, StandsFor}
unfoldable pub use Rattle.tnc_forms.specs.HexFrames.{frames_in_lines, line_fault, text_of}
pub use Rattle.tnc_forms.specs.HexFrames.{HasGoodLength, fault_in, fault_of, fault_of_lines, frame_in, frame_of}
pub use Rattle.tnc_forms.specs.HexFrames.{frames_of_lines, text_of_digits}
pub use Rattle.tnc_forms.specs.HexLines.{Line, ended_of, is_line_feed, lines_at, lines_from, lines_of, parts_of}
unfoldable pub use Rattle.tnc_forms.specs.LinesSoFar.{fault_so_far, frames_so_far}
pub use Rattle.tnc_forms.specs.LinesSoFar.{known_of}
unfoldable pub use Rattle.tnc_forms.specs.Pcm.{pcm}
pub use Rattle.tnc_forms.specs.Reading.{input_limit}
pub use Rattle.tnc_forms.specs.declared.fault.Fault.TheVariants.{Input}
pub use Rattle.tnc_forms.specs.declared.fault.InputFault.{InputFault}
pub use Rattle.tnc_forms.specs.declared.fault.InputFault.TheVariants.{TooLong}
pub use Rattle.tnc_forms.specs.declared.hex_line.LineText.{LineText}
pub use Rattle.tnc_forms.specs.declared.hex_line.LineText.TheVariants.{Frame, Nothing, Refused}
pub use Rattle.tnc_forms.specs.declared.line_fault.LineFault.{LineFault}
pub use Rattle.tnc_forms.specs.declared.line_fault.LineFlaw.{LineFlaw}
pub use Rattle.tnc_forms.specs.declared.line_fault.LineFlaw.TheVariants.{LongLine}
pub use mir.Syntax.{w16}
