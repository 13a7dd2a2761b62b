-- The names that most proofs of this crate cite, passed on from one place.
pub use Rattle.afsk_modulator.specs.Signal.{Transmission}
pub use Rattle.kiss_port.specs.Held.{StandsFor}
unfoldable pub use Rattle.kiss_port.specs.Items.{items_in}
pub use Rattle.kiss_port.specs.declared.item.KissItem.{KissItem}
pub use Rattle.std.proofs.Common.{All, Bool, Err, IfSome, List, None, Ok, Option, Result, Some, [], ap, append_assoc}
pub use Rattle.std.proofs.Common.{arith, cond, drop, false, get_or, inl, inr, length, map, pos, refl, replicate, rules}
pub use Rattle.std.proofs.Common.{subst, sym, take, true, true≢false, ℕ, ℤ, ◌++◌, ◌+◌, ◌-◌, ◌<◌, ◌==◌, ◌^◌, ◌∙◌, ◌∷◌}
pub use Rattle.std.proofs.Common.{◌≡◌, ◌≤◌}
pub use Rattle.std.proofs.lemmas.List.{append-nil, map-append, take-append-drop, take_all, take_more}
pub use Rattle.std.proofs.lemmas.List.Elements.{filter_map-append}
pub use Rattle.std.proofs.lemmas.Result.{err_from_is_err_and}
pub use Rattle.std.specs.List.{filter_map}
pub use Rattle.std.specs.Option.{option_to_list}
pub use Rattle.std.specs.Prelude.{OnErr, OnOk, if◌then◌else◌}
pub use Rattle.tnc_base.specs.Streams.{WrotePart}
unfoldable pub use Rattle.tnc_encode.specs.Encoded.{encoded, encoded_before, fault_of_whole}
pub use Rattle.tnc_encode.specs.Encoded.{first_of, joined, length_fault, samples_at_once, samples_sent, sent_at_once}
pub use Rattle.tnc_encode.specs.Encoded.{signal_of, written_as, written_before}
unfoldable pub use Rattle.tnc_encode.specs.Frames.{kiss_frames}
pub use Rattle.tnc_encode.specs.Frames.{form_fault, form_fault_so_far, frame_of, frames_of_input, frames_so_far}
pub use Rattle.tnc_encode.specs.HeldFrames.{HasSent, HasTaken, IsReader, form_of, position}
unfoldable pub use Rattle.tnc_encode.specs.Sending.{signal_by, transmission_by}
pub use Rattle.tnc_encode.specs.Writing.{EncodesWhole}
pub use Rattle.tnc_forms.proofs.Ends.{map_ok, on_err}
pub use Rattle.tnc_forms.proofs.WrittenParts.{wrote_after, wrote_front, wrote_nothing}
unfoldable pub use Rattle.tnc_forms.specs.Pcm.{pcm}
pub use Rattle.tnc_forms.specs.Reading.{input_limit}
pub use Rattle.tnc_forms.specs.declared.fault.Fault.{Fault}
pub use Rattle.tnc_forms.specs.declared.fault.Fault.TheVariants.{Input, Memory, Read, Write}
pub use Rattle.tnc_forms.specs.declared.fault.InputFault.{InputFault}
pub use Rattle.tnc_forms.specs.declared.fault.InputFault.TheVariants.{TooLong}
pub use Rattle.tnc_words.specs.declared.command.AudioForm.{AudioForm}
pub use Rattle.tnc_words.specs.declared.command.AudioForm.TheVariants.{Raw, Wav}
pub use Rattle.tnc_words.specs.declared.command.EncodeWords.{EncodeWords}
pub use Rattle.tnc_words.specs.declared.command.FrameForm.{FrameForm}
pub use Rattle.tnc_words.specs.declared.command.FrameForm.TheVariants.{Hex, Kiss}
pub use borrow.Author.Tests.{eqb-true}
