-- The names that most proofs of this crate cite, passed on from one place.
unfoldable pub use Rattle.channel_access.specs.Modem.{body_by, piece, transmission_by}
pub use Rattle.channel_access.specs.Modem.{bits_of_ticks, count_of, joined_by, samples_of_bits, tagged, tick_bits}
pub use Rattle.channel_access.specs.HeldWave.{after_tone, modem_of, wave_after, wave_start, wave_window}
pub use Rattle.channel_access.specs.Channel.{Channel, Takes, after_tick, air_after, air_samples, air_sent, air_tick}
pub use Rattle.channel_access.specs.Channel.{air_waiting, begun, decision, new_channel, new_channel_by, with_frame, with_setting}
unfoldable pub use Rattle.channel_access.specs.Held.{new_sending, step_of, window_of, with_bit, with_bits}
pub use Rattle.channel_access.specs.Held.{Held, Run, Step, following_bit, checked, flag_bit, frame_over, frame_start}
pub use Rattle.channel_access.specs.Held.{held_with_frame, sent_with, stage_over, tick_start, with_step}
pub use Rattle.channel_access.specs.HeldTick.{going_on, held_tick, run_of}
unfoldable pub use Rattle.channel_access.specs.OnAir.{bits_of, flag_end, frames_end, samples_on_air, tick_samples}
pub use Rattle.channel_access.specs.OnAir.{OnAir, bits_then, decided, followed_by, frame_named, has_sent_frames}
pub use Rattle.channel_access.specs.OnAir.{most_frames, names_next, waiting_after, waiting_with_named, with_named}
pub use Rattle.channel_access.specs.OnAir.{with_tick}
pub use Rattle.channel_access.specs.Parameters.{closing_flags, flags_in, opening_flags}
unfoldable pub use Rattle.channel_access.specs.StandsFor.{block_rest, stuffed_rest}
pub use Rattle.channel_access.specs.StandsFor.{frame_rest}
pub use Rattle.channel_access.specs.StandsFor.{Counts, Goes, InFrame, IsSent, Sends, Stands, StandsFor, StandsForAir}
pub use Rattle.channel_access.specs.StandsFor.{StandsForSome, flag_rest}
pub use Rattle.channel_access.specs.Waiting.{WaitingFrame}
pub use Rattle.channel_access.specs.WholeTransmission.{GoesToItsEnd, octets_of}
pub use Rattle.channel_access.specs.WholeTransmission.Call.{Ticks}
pub use Rattle.channel_access.specs.declared.air_tick.AirTick.{AirTick}
pub use Rattle.channel_access.specs.declared.air_tick.Sent.{Sent}
pub use Rattle.channel_access.specs.declared.block_bits.BlockBits.{BlockBits}
pub use Rattle.channel_access.specs.declared.frame_bits.FrameBits.{FrameBits}
pub use Rattle.channel_access.specs.declared.frame_bits.FrameBits.TheVariants.{Block, Stuffed}
pub use Rattle.channel_access.specs.declared.stuffed_bits.StuffedBits.{StuffedBits}
pub use Rattle.channel_access.specs.declared.modem.Modem.{Modem}
pub use Rattle.channel_access.specs.declared.modem.CheckOctets.{CheckOctets}
pub use Rattle.channel_access.specs.declared.modem.Modem.TheVariants.{Bell202, Fx25, ShortWave}
pub use Rattle.channel_access.specs.declared.wave.Wave.{Wave}
pub use Rattle.channel_access.specs.declared.parameters.Parameters.{Parameters}
pub use Rattle.channel_access.specs.declared.sending.Sending.{Sending}
pub use Rattle.channel_access.specs.declared.stage.Stage.{Stage}
pub use Rattle.channel_access.specs.declared.stage.Stage.TheVariants.{Closing, Following, Frame, Opening, Over}
pub use Rattle.hdlc_framer.proofs.BitLemmas.{length-sent_bits}
pub use Rattle.hdlc_framer.proofs.StuffingLemmas.{stuffed_is}
unfoldable pub use Rattle.hdlc_framer.specs.BitOrder.{octet_bits}
pub use Rattle.hdlc_framer.specs.BitOrder.{sent_bits}
unfoldable pub use Rattle.hdlc_framer.specs.Body.{body}
pub use Rattle.hdlc_framer.specs.Body.{flags}
unfoldable pub use Rattle.hdlc_framer.specs.CheckSequence.{fcs_of}
pub use Rattle.hdlc_framer.specs.FrameLength.{HasFrameLength}
unfoldable pub use Rattle.hdlc_framer.specs.Frames.{frame_bits, with_fcs}
pub use Rattle.hdlc_framer.specs.Stuffing.{flag}
pub use Rattle.nrzi_bits.proofs.LineLemmas.{length-line_from}
pub use Rattle.nrzi_bits.specs.Line.{line}
pub use Rattle.rand_pcg.specs.Lcg.{Lcg}
pub use Rattle.std.proofs.Common.{Bool, List, None, Option, Some, [], add-one, ap, append-nil, append_assoc, arith}
pub use Rattle.std.proofs.Common.{bit_and, cond, drop, eqb, false, get_or, inl, inr, is_some, leb, length}
pub use Rattle.std.proofs.Common.{length-append, ltb, not, pos, refl, replicate, rules, subst, suc, sym, take, true}
pub use Rattle.std.proofs.Common.{zero, ℕ, ℤ, ◌%◌, ◌&&◌, ◌*◌, ◌++◌, ◌+◌, ◌-◌, ◌/◌, ◌<◌, ◌^◌, ◌∙◌, ◌∷◌, ◌≡◌, ◌≤◌, ◌⊎◌}
pub use Rattle.std.proofs.Common.{◌||◌}
pub use Rattle.std.proofs.Math.Nat.{le-max_left}
pub use Rattle.std.proofs.Math.Seq.{get_or-append_seam}
pub use Rattle.std.proofs.lemmas.Bool.{cases_Bool, cond-false, cond-true, le-leb, leb-false, leb-true, lt-leb, lt-ltb}
pub use Rattle.std.proofs.lemmas.Bool.{ltb-true}
pub use Rattle.std.proofs.lemmas.Bool.Decides.{nat_tests}
pub use Rattle.std.proofs.lemmas.List.{replicate-append-replicate, take-append-le, take_all}
pub use Rattle.std.proofs.lemmas.List.Concat.{flat_map-append}
pub use Rattle.std.proofs.lemmas.List.Elements.{All-head, All-nil, All-push, All-tail}
pub use Rattle.std.specs.List.{All}
pub use Rattle.tone_table.specs.declared.tone.Tone.{Tone}
pub use Rattle.tone_table.specs.declared.tone.Tone.TheVariants.{Mark}
