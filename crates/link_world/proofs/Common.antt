-- The names that most proofs of this crate cite, passed on from one place.
pub use Rattle.ax25_address.specs.declared.path.Path.{Path}
pub use Rattle.ax25_frames.specs.FrameOctets.{IsFrame}
pub use Rattle.ax25_frames.specs.declared.frame.Frame.{Frame}
pub use Rattle.ax25_frames.specs.declared.frame.Kind.{Kind}
pub use Rattle.ax25_frames.specs.declared.frame.Kind.TheVariants.{Info, Other, Setup, Super, Ui}
pub use Rattle.ax25_frames.specs.declared.frame.Modulus.{Modulus}
pub use Rattle.ax25_frames.specs.declared.frame.Modulus.TheVariants.{Eight, OneTwentyEight}
pub use Rattle.ax25_frames.specs.declared.frame.S.{S}
pub use Rattle.ax25_frames.specs.declared.frame.S.TheVariants.{Rnr, Rr}
pub use Rattle.ax25_frames.specs.declared.frame.U.{U}
pub use Rattle.ax25_frames.specs.declared.frame.U.TheVariants.{Dm, Sabm}
pub use Rattle.link_machine.specs.Acts.{acknowledged, before_gap, close, give, gone_back, moved_on, none_again}
pub use Rattle.link_machine.specs.Acts.{nothing_due, polled, recover, recover_with, run_with, stored, with_rej}
pub use Rattle.link_machine.specs.Done.{Done}
pub use Rattle.link_machine.specs.Frames.{answer_dm, end_call, hear_up, open_called}
pub use Rattle.link_machine.specs.Machine.{Machine, is_valid, modulus_named, named}
pub use Rattle.link_machine.specs.Params.{HasWindows, called_modulus, mode_in, window_in}
pub use Rattle.link_machine.specs.Requests.{connect, joined, quitting}
pub use Rattle.link_machine.specs.Sent.{Sent, SentIn, all_sent_in, sent_frames, sent_in, sent_kind}
pub use Rattle.link_machine.specs.Negotiation.{is_heard_as_command}
pub use Rattle.link_machine.specs.Sent.Sent.{InfoSent, SetupSent, SuperSent, XidSent}
pub use Rattle.xid_parameters.specs.declared.parameters.LinkParameters.{LinkParameters}
unfoldable pub use Rattle.link_machine.specs.Step.{step}
pub use Rattle.link_machine.specs.Step.{done_of, refusal_of, settle_in, settled}
pub use Rattle.link_machine.specs.Seizing.{seize, seize_in}
pub use Rattle.link_machine.specs.Ticks.{is_spent, lowered, retried, runs_out, t1_out, t3_out, tick, tick_in}
pub use Rattle.link_machine.specs.Ticks.{tick_t1_of, tick_t3_of, with_t1, with_t3}
pub use Rattle.link_machine.specs.Turn.{Turn, begin, changing, setting}
pub use Rattle.link_machine.specs.declared.acts.SentFrame.{SentFrame}
pub use Rattle.link_machine.specs.declared.acts.Told.{Told}
pub use Rattle.link_machine.specs.declared.acts.Told.TheVariants.{Ended, Given, Opened}
pub use Rattle.link_machine.specs.declared.acts.Why.TheVariants.{Failed, Refused, Reset}
pub use Rattle.link_machine.specs.declared.control.Control.{Control}
pub use Rattle.link_machine.specs.declared.fault.LinkFault.{LinkFault}
pub use Rattle.link_machine.specs.declared.fault.NewFault.{NewFault}
pub use Rattle.link_machine.specs.declared.fault.NewFault.TheVariants.{BadWindow}
pub use Rattle.link_machine.specs.declared.params.Params.{Params}
pub use Rattle.link_machine.specs.declared.state.LinkState.{LinkState}
pub use Rattle.link_world.specs.Faults.{is_there, near_cause, refused_by}
pub use Rattle.link_world.specs.Flight.{Tagged, answers_in, asks, asks_in, is_answer, is_numbered, set_up_of}
pub use Rattle.link_world.specs.Held.{CanFly, Flew, IsAnswered, MadeStep, StandForBoth, answering, asking, event_of}
pub use Rattle.link_world.specs.Held.{flying, hearing_asks, is_quiet_between, seen_of}
pub use Rattle.link_world.specs.Law.{hears_valid}
pub use Rattle.link_world.specs.Quiet.{IsQuietRun, called_alone, is_alone, is_quiet, is_sabm_frame, sends_alone}
pub use Rattle.link_world.specs.Reading.{frame_read, kind_read, read_narrow, with_kind}
pub use Rattle.link_world.specs.Recorded.{EndTurn, Happening, RecordedEnd, accepts, following, end_turn, hearing}
pub use Rattle.link_world.specs.Recorded.{hears_ask, mate_of, noting, opening, seen, tagged, taking, told_of}
pub use Rattle.link_world.specs.Recorded.{waiting_in}
pub use Rattle.link_world.specs.Recorded.Happening.{Connects, Disconnects, Hears, Seizes, Sends, Ticks}
pub use Rattle.link_world.specs.SetUps.{SetUp, acting, change_last, getting, giving, last_changed, opened}
pub use Rattle.link_world.specs.StandsFor.{all_in_flight, in_flight, sent_tagged}
pub use Rattle.link_world.specs.Untagged.{frames}
pub use Rattle.link_world.specs.Windows.{AreHalves, IsHalf, WindowsFit}
pub use Rattle.link_world.specs.World.{Side, World, end_of, hearing_as, near_step, near_turn, new_world, read_in, run}
pub use Rattle.link_world.specs.World.{seen_from, staying, towards, turn_of}
pub use Rattle.link_world.specs.declared.end.End.{End}
pub use Rattle.link_world.specs.declared.end.End.TheVariants.{A, B}
pub use Rattle.link_world.specs.declared.event.Event.{Event}
pub use Rattle.link_world.specs.declared.event.Event.TheVariants.{Connect, Disconnect, Hear, Lose, Seize, Send, Tick}
pub use Rattle.link_world.specs.declared.fault.WorldFault.{WorldFault}
pub use Rattle.link_world.specs.declared.fault.WorldFault.TheVariants.{NothingThere}
pub use Rattle.link_world.specs.declared.flight.InFlight.{InFlight}
pub use Rattle.selective_reject.specs.Incoming.{Incoming, empty_incoming, keeps, taking_by, took}
unfoldable pub use Rattle.selective_reject.specs.Numbers.{ahead}
unfoldable pub use Rattle.selective_reject.specs.Places.{missing}
pub use Rattle.selective_reject.specs.Places.{empty_place, first_missing, full_end, is_full, packet_at, unasked}
pub use Rattle.selective_reject.specs.Places.{with_asked, with_packet}
pub use Rattle.selective_reject.specs.Window.{IsWindow}
pub use Rattle.selective_reject.specs.declared.packet.Packet.{Packet}
pub use Rattle.selective_reject.specs.declared.place.Place.{Place}
pub use Rattle.selective_reject.specs.declared.window.Mode.{Mode}
pub use Rattle.std.proofs.Common.{Bool, Err, IfSome, IsSome, List, None, Ok, Option, Result, Some, [], ap, append-nil}
pub use Rattle.std.proofs.Common.{append_assoc, arith, drop, false, if◌then◌else◌, inl, inr, is_some, le_refl, le_trans}
pub use Rattle.std.proofs.Common.{length, length-append, map, max, min, nat_lt, not, refl, replicate, rules, slice_get}
pub use Rattle.std.proofs.Common.{subst, suc, sym, take, tests, true, zero, ℕ, ◌%◌, ◌&&◌, ◌++◌, ◌+◌, ◌-◌, ◌<◌, ◌==◌}
pub use Rattle.std.proofs.Common.{◌||◌, ◌∙◌, ◌∷◌, ◌≡◌, ◌≤◌, ◌⊎◌}
pub use Rattle.std.proofs.lemmas.Bool.{and_parts, cases_lt, cond-false, cond-true, eqb-false, eqb-true, false≢true}
pub use Rattle.std.proofs.lemmas.Bool.{le-leb, lt-ltb, ltb-true, ne_eqb}
pub use Rattle.std.proofs.lemmas.List.{drop-drop, length-map, map-append}
pub use Rattle.std.proofs.lemmas.List.Elements.{All-drop, All-from_recursion}
pub use Rattle.std.proofs.lemmas.Option.{none-some}
pub use Rattle.std.proofs.lemmas.Result.{err_from_is_err_and}
pub use Rattle.std.specs.Bool.{⊤}
pub use Rattle.std.specs.List.{fold}
pub use Rattle.std.specs.Prelude.{All, IfErr, IfOk, IsTrue, remove, slice_index_or, ◌↔◌}
