-- The names that most proofs of this crate cite, passed on from one place.
pub use Rattle.ax25_address.specs.declared.path.Path.{Path}
pub use Rattle.ax25_address.specs.declared.path.Role.TheVariants.{Command}
pub use Rattle.ax25_frames.specs.ControlField.{numbers}
pub use Rattle.ax25_frames.specs.declared.frame.Kind.{Kind}
pub use Rattle.ax25_frames.specs.declared.frame.Kind.TheVariants.{Info, Other, Setup, Super, Ui}
pub use Rattle.ax25_frames.specs.declared.frame.S.{S}
pub use Rattle.ax25_frames.specs.declared.frame.S.TheVariants.{Rej, Rnr, Rr, Srej}
pub use Rattle.ax25_frames.specs.declared.frame.U.TheVariants.{Disc, Dm, Sabm, Sabme, Ua}
pub use Rattle.ax25_frames.specs.declared.frame.W.TheVariants.{Frmr, Test, Xid}
pub use Rattle.link_machine.specs.Acts.{acknowledged, answering, after_poll, calling, close, give, gone_back, moved_on}
pub use Rattle.link_machine.specs.Acts.{none_again, nothing_asked, nothing_due, owing, picked_out, polled, recover}
pub use Rattle.link_machine.specs.Acts.{recover_with, releasing, reset, run, run_with, stored, timed_by, watching, with_rej}
pub use Rattle.link_machine.specs.Done.{Done}
pub use Rattle.link_machine.specs.Event.{Event}
pub use Rattle.link_machine.specs.Event.Event.{Connect, Disconnect, Hear, Seize, Send, Tick}
pub use Rattle.link_machine.specs.Frames.{acknowledged_by_srej, answer_dm, end_by_disc, end_by_dm, end_call, hear}
pub use Rattle.link_machine.specs.Frames.{hear_calling, hear_calling_in, hear_idle, hear_in, hear_info, hear_info_by}
pub use Rattle.link_machine.specs.Frames.{heard, heard_busy, hear_info_by_rej, hear_info_by_srej, hear_rej}
pub use Rattle.link_machine.specs.Frames.{hear_releasing, hear_rnr, hear_rr, hear_srej, leave, lies_ahead, open_again}
pub use Rattle.link_machine.specs.Frames.{open_called, out_of_sequence, stopped, stopped_t1, take_in_sequence}
pub use Rattle.link_machine.specs.Frames.{take_selected, unretried_call}
pub use Rattle.link_machine.specs.Held.{Holds, IsReady, IsWhole, Made, Makes, Shows, carried, hear_numbered}
pub use Rattle.link_machine.specs.Machine.{Machine, ahead_of_vr, emptied, fresh, in_modulus, in_state, is_valid}
pub use Rattle.link_machine.specs.Machine.{falls_back, is_wide, named, narrowed}
pub use Rattle.link_machine.specs.Requests.{disconnect, disconnect_in, give_up, quit_up, quitting, refusal, withdraw}
pub use Rattle.link_machine.specs.Room.{frames_left, told_left}
pub use Rattle.link_machine.specs.Sent.{Sent, SentIn, all_sent_in, sent_frame, sent_frames, sent_in}
pub use Rattle.link_machine.specs.Negotiation.{agreed, answer_xid, ask_xid, asked_once, asks_xid, concluding, hear_answering}
pub use Rattle.link_machine.specs.Negotiation.{hear_asking, hear_xid, hear_xid_idle, is_heard_as_command, tm201_ticked}
pub use Rattle.link_machine.specs.Negotiation.{awaits_xid, has_done, own_parameters, to_ask, using, widest_parameters}
pub use Rattle.link_machine.specs.Sent.Sent.{InfoSent, SetupSent, SuperSent, XidSent}
pub use Rattle.link_machine.specs.StandsFor.{StandsFor}
unfoldable pub use Rattle.link_machine.specs.Step.{step}
pub use Rattle.link_machine.specs.Step.{done_of, refusal_of, row, settle_in, settled}
pub use Rattle.link_machine.specs.Seizing.{answered, info_at, info_sent, left_with, not_passed, notice_passed, polling}
pub use Rattle.link_machine.specs.Seizing.{poll_frame, polled_packet, polls, rejected, seize, seize_in, send_again}
pub use Rattle.link_machine.specs.Seizing.{send_answer, send_due, send_frame, send_info, send_info_with, send_next}
pub use Rattle.link_machine.specs.Seizing.{send_poll, send_rej, send_srej}
pub use Rattle.link_machine.specs.Ticks.{fall_back, is_spent, lowered, retried, runs_out, silent, t1_out, t3_out, tick_in}
pub use Rattle.link_machine.specs.Ticks.{tick_t1, tick_t1_of, tick_t3_of, tick_up, to_poll, with_t1, with_t3}
pub use Rattle.link_machine.specs.Wants.{can_send_info, has_more, is_asked_again, is_missing_some}
pub use Rattle.link_machine.specs.Wants.{may_send_info, owes, sending_window, wants}
pub use Rattle.link_machine.specs.Turn.{Act, Turn, begin, changing, in_order, sending, setting, telling}
pub use Rattle.link_machine.specs.declared.acts.SentFrame.{SentFrame}
pub use Rattle.link_machine.specs.declared.acts.Told.{Told}
pub use Rattle.link_machine.specs.declared.acts.Told.TheVariants.{Ended, Given, Opened}
pub use Rattle.link_machine.specs.declared.acts.Why.TheVariants.{Asked, Failed, Reset}
pub use Rattle.link_machine.specs.declared.control.Control.{Control}
pub use Rattle.link_machine.specs.declared.fault.LinkFault.{LinkFault}
pub use Rattle.link_machine.specs.declared.params.Params.{Params}
pub use Rattle.link_machine.specs.declared.room.Room.{Room}
pub use Rattle.link_machine.specs.declared.state.LinkState.{LinkState}
pub use Rattle.link_machine.specs.declared.state.LinkState.TheVariants.{Calling, Idle, Releasing, Up}
pub use Rattle.selective_reject.specs.Incoming.{Incoming, IsIncoming, StandsForIncoming, after_accept, keeps}
pub use Rattle.selective_reject.specs.Incoming.{next_missing, took}
unfoldable pub use Rattle.selective_reject.specs.Numbers.{ahead}
pub use Rattle.selective_reject.specs.Numbers.{IsModulus}
pub use Rattle.selective_reject.specs.Outgoing.{IsOutgoing, Outgoing, StandsForOutgoing, acknowledgement, after_next}
pub use Rattle.selective_reject.specs.Outgoing.{after_push, back, number_to_send, restarted}
unfoldable pub use Rattle.selective_reject.specs.Places.{missing}
pub use Rattle.selective_reject.specs.Places.{empty_place, is_full, packet_at, with_packet}
pub use Rattle.selective_reject.specs.declared.incoming.Took.TheVariants.{Next, Stored}
pub use Rattle.selective_reject.specs.declared.packet.Packet.{Packet}
pub use Rattle.selective_reject.specs.declared.place.Place.{Place}
pub use Rattle.selective_reject.specs.declared.window.Mode.{Mode}
pub use Rattle.std.proofs.Common.{Bool, Err, List, None, Ok, Some, [], ap, append_assoc, arith, drop, eqb-true, false}
pub use Rattle.std.proofs.Common.{if◌then◌else◌, inl, inr, length, length-append, length-drop, map, max, min, nat_lt}
pub use Rattle.std.proofs.Common.{refl, replicate, subst, suc, sym, take, true, zero, ℕ, ◌%◌, ◌++◌, ◌+◌, ◌-◌, ◌<◌, ◌==◌}
pub use Rattle.std.proofs.Common.{◌∙◌, ◌∷◌, ◌≡◌, ◌≤◌}
pub use Rattle.std.proofs.lemmas.Bool.{cond-false, cond-true, false≢true, le-leb, lt-ltb, ltb-false, ltb-true}
pub use Rattle.std.proofs.lemmas.List.{drop-append-le, drop-drop, map-append}
pub use Rattle.std.proofs.lemmas.Option.{slice_get_cases}
pub use Rattle.std.specs.List.{slice_get}
pub use Rattle.std.specs.Option.{option_to_list}
pub use Rattle.std.specs.Prelude.{IfOk, IsErr, Option, Result, get_or, is_some, not, ◌&&◌, ◌⊎◌}
pub use Rattle.tnc_base.specs.declared.fault.OutOfMemory.{OutOfMemory}
