-- The names that most proofs of this crate cite, passed on from one place.
unfoldable pub use Rattle.agwpe_port.specs.Messages.{reading}
pub use Rattle.agwpe_port.specs.Messages.{bad_length_in}
pub use Rattle.agwpe_port.specs.declared.message.AgwMessage.{AgwMessage}
pub use Rattle.ax25_address.proofs.OneReading.{BeginsWithPath-same}
pub use Rattle.ax25_address.specs.AddressField.{bit}
pub use Rattle.ax25_address.specs.Callsign.{Callsign, IsCallCharacter}
pub use Rattle.ax25_address.specs.FramePath.{BeginsWithPath, repeater_count, way_back}
pub use Rattle.ax25_address.specs.declared.path.Hop.{Hop}
pub use Rattle.ax25_address.specs.declared.path.Path.{Path}
pub use Rattle.ax25_address.specs.declared.path.Role.{Role}
pub use Rattle.ax25_address.specs.declared.path.Role.TheVariants.{Command}
pub use Rattle.ax25_frames.specs.FrameOctets.{IsFrame, body_octets}
pub use Rattle.ax25_frames.specs.declared.frame.Frame.{Frame}
pub use Rattle.ax25_frames.specs.declared.frame.Kind.{Kind}
pub use Rattle.ax25_frames.specs.declared.frame.Kind.TheVariants.{Info, Other, Setup, Super, Ui}
pub use Rattle.ax25_frames.specs.declared.frame.Modulus.{Modulus}
pub use Rattle.ax25_frames.specs.declared.frame.Modulus.TheVariants.{Eight, OneTwentyEight}
pub use Rattle.ax25_frames.specs.declared.frame.U.{U}
pub use Rattle.ax25_frames.specs.declared.frame.U.TheVariants.{Disc, Dm, Sabm, Sabme, Ua}
pub use Rattle.digipeater.specs.Repeated.{repeated}
pub use Rattle.hdlc_framer.specs.FrameLength.{has_frame_length}
pub use Rattle.kiss_port.specs.declared.item.KissItem.{KissItem}
pub use Rattle.kiss_port.specs.declared.item.KissItem.TheVariants.{Hardware, Return, Set, TooLong}
pub use Rattle.link_machine.specs.Acts.{release}
pub use Rattle.link_machine.specs.Event.{Event}
pub use Rattle.link_machine.specs.Event.Event.{Connect, Disconnect, Hear, Seize, Send, Tick}
pub use Rattle.link_machine.specs.Machine.{Machine, modulus_named, new_machine}
pub use Rattle.link_machine.specs.Params.{default_params}
pub use Rattle.link_machine.specs.Sent.{Sent, SentIn, sent_frame, sent_in, sent_kind}
pub use Rattle.link_machine.specs.Negotiation.{widest_parameters}
pub use Rattle.link_machine.specs.Sent.Sent.{InfoSent, SetupSent, SuperSent, XidSent}
unfoldable pub use Rattle.link_machine.specs.Step.{step}
pub use Rattle.link_machine.specs.Step.{done_of}
pub use Rattle.link_machine.specs.Turn.{begin}
pub use Rattle.link_machine.specs.declared.acts.SentFrame.{SentFrame}
pub use Rattle.link_machine.specs.declared.acts.Told.{Told}
pub use Rattle.link_machine.specs.declared.acts.Told.TheVariants.{Ended, Given, Opened}
pub use Rattle.link_machine.specs.declared.acts.Why.{Why}
pub use Rattle.link_machine.specs.declared.acts.Why.TheVariants.{Failed, Peer, Reset}
pub use Rattle.link_machine.specs.declared.control.Control.{Control}
pub use Rattle.link_machine.specs.declared.params.Params.{Params}
pub use Rattle.link_machine.specs.declared.state.LinkState.{LinkState}
pub use Rattle.link_machine.specs.declared.state.LinkState.TheVariants.{Calling, Idle, Releasing, Up}
pub use Rattle.link_steps.proofs.Rows.{IsAsking, IsConnect, IsDisconnect, Row, Settles, Stepped, rests_traffic}
pub use Rattle.link_steps.proofs.Rows.{step_is}
pub use Rattle.link_steps.proofs.Rows.Rests.{as_timed}
pub use Rattle.link_steps.proofs.Rows.Row.{agrees, calls_again, connects, declines, ends_by_disc, ends_by_dm, ends_call}
pub use Rattle.link_steps.proofs.Rows.Row.{gives_up, is_answered, is_called, is_called_again, narrows, falls_narrow}
pub use Rattle.link_steps.proofs.Rows.Row.{releases_again}
pub use Rattle.link_steps.proofs.Rows.Row.{abandons, resets, rests, takes, tells_own, wishes, withdraws, works}
pub use Rattle.link_steps.proofs.Rows.Settles.{goes_on, is_down, releases}
pub use Rattle.link_steps.proofs.Rows.Stepped.{is_refused}
pub use Rattle.link_steps.proofs.Traffic.{Single, Traffic, traffic_mode}
pub use Rattle.link_steps.proofs.Traffic.Single.{acknowledges, exchanges, forgets, gives, goes_back, informs, picks}
pub use Rattle.link_steps.proofs.Traffic.Single.{reports}
pub use Rattle.link_steps.proofs.Traffic.Single.{selects, stores, times}
pub use Rattle.link_world.proofs.StepGrowth.{step_keeps}
pub use Rattle.link_world.proofs.law.ChangesLaw.{changes_law_holds}
pub use Rattle.link_world.proofs.law.Each.{each_append, each_weaker}
pub use Rattle.link_world.specs.Changes.{AreQuiet, Change, ChangesAreValid, ChangesLaw, changed, hears_valid_in, kept}
pub use Rattle.link_world.specs.Changes.{made_in, near_kept, near_made, run_changes}
pub use Rattle.link_world.specs.Changes.Change.{Keeps, Makes}
pub use Rattle.link_world.specs.Flight.{Tagged, answers_in, asks, asks_in, is_answer}
pub use Rattle.link_world.specs.Law.{first_names_valid, hears_valid, names_valid, read_names_valid, reads_valid}
pub use Rattle.link_world.specs.Quiet.{is_alone, sends_alone}
pub use Rattle.link_world.specs.Reading.{frame_read, info_read_wide, kind_read, with_kind}
pub use Rattle.link_world.specs.Recorded.{Happening, RecordedEnd, following, seen, tagged}
pub use Rattle.link_world.specs.Recorded.Happening.{Connects, Disconnects, Hears, Seizes, Sends, Ticks}
pub use Rattle.link_world.specs.Windows.{WindowsFit}
pub use Rattle.link_world.specs.World.{Side, World, happening, hearing_as, hearing_first, near_turn, other, read_in}
pub use Rattle.link_world.specs.World.{seen_from, staying, turn_of}
pub use Rattle.link_world.specs.declared.end.End.{End}
pub use Rattle.link_world.specs.declared.end.End.TheVariants.{A, B}
pub use Rattle.selective_reject.specs.declared.packet.Packet.{Packet}
pub use Rattle.station.specs.AgwKinds.{capabilities_kind, data_kind, disconnect_kind, monitor_kind, pending_kind}
pub use Rattle.station.specs.AgwKinds.{ports_kind, raw_kind, register_kind, toggle_kind, unproto_kind, unproto_via_kind}
pub use Rattle.station.specs.AgwKinds.{unregister_kind, version_kind, waiting_kind, heard_kind}
pub use Rattle.station.specs.AgwRequests.{AreAnswered, IsCall, IsCallMade, answering_else, called_pid, called_route}
pub use Rattle.station.specs.AgwRequests.{calls, capabilities_reply, data_pid, disconnecting, giving, giving_packet}
pub use Rattle.station.specs.AgwRequests.{may_call, monitor_toggled, most_information, own_key, packet_length, packets_of}
pub use Rattle.station.specs.AgwRequests.{pending_in}
pub use Rattle.station.specs.AgwRequests.{pending_reply, ports_reply, queueing_raw, refused_reply, register_reply}
pub use Rattle.station.specs.AgwRequests.{registering, replying, sending_unnumbered, toggled, unnumbered_frame}
pub use Rattle.station.specs.AgwRequests.{unregistering, version_reply, waiting_reply, with_registration}
pub use Rattle.station.specs.AgwRequests.{heard_reply, replying_heard}
pub use Rattle.frame_monitor.specs.declared.heard_station.HeardStation.{HeardStation}
pub use Rattle.station.specs.Asking.{asked_key, asking, asking_at, seizing, with_asked}
unfoldable pub use Rattle.station.specs.CallFields.{call_of_text}
pub use Rattle.station.specs.CallFields.{call_in}
pub use Rattle.station.specs.Connections.{Connection, connection_of}
unfoldable pub use Rattle.station.specs.FrameSpelling.{frame_octets}
pub use Rattle.station.specs.FrameSpelling.{path_octets}
pub use Rattle.station.specs.Heard.{AreHeardAt, AreOctetsHeard, IsHeard, IsHeardAnew, IsHeardBy, IsHeardMaking}
pub use Rattle.station.specs.Heard.{IsPathOf, IsReadingHeardAnew, IsRepeatedFor, destination_field, may_make}
pub use Rattle.station.specs.Heard.{showing_to, shown_to_hosts, source_field, waits_for_repeater, with_shown}
pub use Rattle.station.specs.Host.{AreTaken, AreTakenBy, IsHostTurn, ending, has_place, joining, new_items, new_messages, taking}
pub use Rattle.station.specs.Host.{with_host}
pub use Rattle.station.specs.Kiss.{heeding, heeding_all, param_of, with_param}
unfoldable pub use Rattle.station.specs.Leaving.{giving_up_all}
pub use Rattle.station.specs.Leaving.{giving_up, giving_up_link, leaving, shutting, without_host, without_owner}
pub use Rattle.station.specs.LinkEvents.{event_at, event_of, link_event, queueing_frame, queueing_frames, settled_link}
pub use Rattle.station.specs.LinkEvents.{telling_one, telling_to, with_links}
pub use Rattle.station.specs.Links.{IsNewKey, Link, Links, is_between, key_between, link_at, most_links, with_link}
pub use Rattle.station.specs.Links.{with_new_link}
pub use Rattle.station.specs.NewLinks.{idle_link, making, no_layer_3}
pub use Rattle.station.specs.Passing.{loser, passing, shutting_loser}
pub use Rattle.station.specs.Registrations.{is_number, may_register, registrar}
pub use Rattle.station.specs.Routes.{Route, after_repeaters, path_along, repeaters_in, route_in}
pub use Rattle.station.specs.State.{StationState, new_station, usual_config}
unfoldable pub use Rattle.station.specs.Ticks.{ticking_links}
pub use Rattle.station.specs.Ticks.{asked_links, t1_stands, ticking, ticking_at, waits}
pub use Rattle.station.specs.Turn.{Act, Out, Turn, capacity, changing, closing, dropping, entering, entering_for}
pub use Rattle.station.specs.Turn.{in_order, queueing, queueing_for, queueing_own, may_enter}
pub use Rattle.station.specs.declared.asker.Asker.{Asker}
pub use Rattle.station.specs.declared.config.Config.{Config}
pub use Rattle.station.specs.declared.host_event.HostEvent.{HostEvent}
pub use Rattle.station.specs.declared.host_event.HostEvent.TheVariants.{Bytes, Joined, Left}
pub use Rattle.station.specs.declared.host_event.PortKind.{PortKind}
pub use Rattle.station.specs.declared.host_event.PortKind.TheVariants.{Agw, Kiss}
pub use Rattle.station_laws.specs.HeardInOrder.{AreAlikeButForH, AreHeardInOrder, HasPair, HearsFrameOf}
pub use Rattle.station_laws.specs.HeardInOrder.{HearsLinkFrame, IsHeardPair, IsOffAir, Pair, RiseBoth, with_none_done}
pub use Rattle.station_laws.specs.HostsAsk.{InputAsksNothing, StepAsksNothing}
pub use Rattle.station_laws.specs.InFlight.{AreMatched, AreQuietAt, AreQuietThrough, BothWays, IsMatched, LinkFrame}
pub use Rattle.station_laws.specs.InFlight.{Moment, OneWay, after_moment, answers, hearing_at, hears_ask, in_flight}
pub use Rattle.station_laws.specs.InFlight.{is_ask, is_ua_or_dm, nothing_sent, queueing_all, queueing_at, sent_by}
pub use Rattle.station_laws.specs.InFlight.{steps_in, with_queued}
pub use Rattle.station_laws.specs.InFlight.Moment.{Passes, Steps}
pub use Rattle.station_laws.specs.JointRun.{Input, IsJointRun, IsTurn, Stations, Step, all_stepped, at_end}
pub use Rattle.station_laws.specs.JointRun.{new_stations, queued_at, state_of, stepped, with_state}
pub use Rattle.station_laws.specs.JointRun.Input.{FromHost, OfClock, OffAir}
pub use Rattle.station_laws.specs.LinkFrames.{is_from_to}
pub use Rattle.station_laws.specs.LinkInFlight.{AreMatchedFor, AreQuietAtFor, AreQuietFor, IsMatchedFor}
pub use Rattle.station_laws.specs.LinkOfCalls.{Calls, Counts, FollowsAll, FollowsThrough, IsQuietLink, Pairs}
pub use Rattle.station_laws.specs.LinkOfCalls.{all_changes_by, call_at_end, changes_by, changes_from, changes_of, count_at}
pub use Rattle.station_laws.specs.LinkOfCalls.{event_at_end, first_world, heard_at, is_named, link_at_end, makes}
pub use Rattle.station_laws.specs.LinkOfCalls.{marks_from, path_between, with_more}
pub use Rattle.station_laws.specs.LinkSteps.{Choice, LinkStep, anew_steps, answer_steps, asked_at, asking_steps}
pub use Rattle.station_laws.specs.LinkSteps.{by_path_steps, call_steps}
pub use Rattle.station_laws.specs.LinkSteps.{data_steps, disconnect_steps, else_steps, ending_steps, given_up}
pub use Rattle.station_laws.specs.LinkSteps.{gives_up_at, heard_steps, hears_at, host_steps, key_steps, leaving_steps}
pub use Rattle.station_laws.specs.LinkSteps.{link_step, loser_steps, made_steps, message_steps, new_steps, octet_steps}
pub use Rattle.station_laws.specs.LinkSteps.{octet_steps_by, passing_steps, path_steps, reading_steps, sends_at}
pub use Rattle.station_laws.specs.LinkSteps.{shut_steps, steps_along, steps_at}
pub use Rattle.station_laws.specs.LinkSteps.{steps_for, steps_of, tick_steps, ticks_at, turn_steps}
pub use Rattle.station_laws.specs.LinksTell.{RunsIn, runs_after}
pub use Rattle.station_laws.specs.MatchedLaw.{AsksInRoom, DropsNoAsk, FindsRoom, IsEventOfCaller, IsOfNoHost}
pub use Rattle.station_laws.specs.MatchedLaw.{OnlyACalls, is_event, pair_of, pairs_from, pairs_in}
pub use Rattle.station_laws.specs.Owners.{pieces_to}
pub use Rattle.station_laws.specs.RunsTell.{runs_following}
pub use Rattle.station_laws.specs.SetUpsSeen.{link_steps_at}
pub use Rattle.station_laws.specs.StationsLaw.{IsMachineOf, LinkKeepsOrder, first_chosen}
pub use Rattle.std.proofs.Common.{Bool, List, None, Option, Some, [], ap, arith, cond, drop, false, get_or}
pub use Rattle.std.proofs.Common.{if◌then◌else◌, inl, inr, is_some, length, map, nat_le, nat_lt, not, refl, set, subst}
pub use Rattle.std.proofs.Common.{suc, sym, take, true, zero, ℕ, ◌%◌, ◌&&◌, ◌*◌, ◌++◌, ◌+◌, ◌-◌, ◌<◌, ◌==◌, ◌||◌, ◌∙◌}
pub use Rattle.std.proofs.Common.{◌∷◌, ◌≡◌, ◌≢◌, ◌≤◌, ◌⊎◌}
pub use Rattle.std.proofs.Math.Nat.{le-max_left, le-max_right}
pub use Rattle.std.proofs.Math.Seq.{get_or-append_seam, take-append_seam}
pub use Rattle.std.proofs.lemmas.Bool.{and_parts, and_right, cases_eq, cases_lt, cond-false, cond-true, eq-eqb}
pub use Rattle.std.proofs.lemmas.Bool.{eqb-true, false≢true, ltb-false, ltb-true, ne_eqb, or_cases, or_from, or_left}
pub use Rattle.std.proofs.lemmas.Bool.{or_parts, or_right}
pub use Rattle.std.proofs.lemmas.List.{append-nil, append_assoc, drop-drop, get_or-append-add, get_or-set_same}
pub use Rattle.std.proofs.lemmas.List.{get_or_append_left, get_or_past, length-append, length-map, map-append}
pub use Rattle.std.proofs.lemmas.List.Elements.{All-contains_itself, All-from_recursion, recursion_from_All}
pub use Rattle.std.proofs.lemmas.Option.{slice_get-get_or, slice_get_within}
pub use Rattle.std.specs.Bool.{⊤}
pub use Rattle.std.specs.List.{count_by, list_all, list_any, range_with_len}
pub use Rattle.std.specs.Prelude.{All, AllPairs, MatchBool, is_none, option_map, slice_get}
pub use Rattle.step_laws.proofs.Runs.{along_run}
