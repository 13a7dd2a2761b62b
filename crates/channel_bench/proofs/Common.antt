-- The names that most proofs of this crate cite, passed on from one place.
pub use Rattle.agwpe_port.proofs.WrittenLemmas.{IsWritten}
pub use Rattle.agwpe_port.specs.CallField.{call_field}
unfoldable pub use Rattle.agwpe_port.specs.Messages.{spelling}
pub use Rattle.agwpe_port.specs.Messages.{bad_length_in, messages_in}
pub use Rattle.agwpe_port.specs.declared.message.AgwMessage.{AgwMessage}
pub use Rattle.ax25_address.specs.Callsign.{Callsign}
pub use Rattle.ax25_address.specs.FramePath.{way_back}
pub use Rattle.ax25_address.specs.declared.path.Path.{Path}
pub use Rattle.ax25_address.specs.declared.path.Role.TheVariants.{Command}
pub use Rattle.ax25_frames.specs.declared.frame.Frame.{Frame}
pub use Rattle.ax25_frames.specs.declared.frame.Kind.{Kind}
pub use Rattle.channel_access.specs.Channel.{Channel, after_rules, air_samples, air_waiting, decision, with_decision}
unfoldable pub use Rattle.channel_access.specs.OnAir.{samples_on_air, tick_samples}
pub use Rattle.channel_access.specs.OnAir.{OnAir, bits_then, decided, names_next}
pub use Rattle.channel_access.specs.Waiting.{WaitingFrame}
pub use Rattle.channel_access.specs.Words.{after_word, words}
pub use Rattle.channel_access.specs.declared.air_tick.Sent.{Sent}
pub use Rattle.channel_bench.specs.BenchOrder.{IsNoted, first_stations, octets_in, set_up_of, stations_of, steps_of_run}
pub use Rattle.channel_bench.specs.BenchOrder.{the_calls}
pub use Rattle.channel_bench.specs.BenchRun.{AreTicks, IsEndedBy, IsOver}
pub use Rattle.channel_bench.specs.BenchState.{AtEnd, BenchState, Common, Near, SideState, config_of, near, new_bench}
pub use Rattle.channel_bench.specs.BenchState.{params_of, side_at, ways_of, with_near}
pub use Rattle.channel_bench.specs.BenchSteps.{AreHeardAt, GoesOn, IsHeardAs, IsHeardAt, IsStep, IsTicking, IsTold}
pub use Rattle.channel_bench.specs.BenchSteps.{MayCome, count_of, distance, first_unquiet, fits, is_coming, is_frame_of, is_match, match_of}
pub use Rattle.channel_bench.specs.BenchSteps.{most_waiting, number_of, or_coming}
pub use Rattle.channel_bench.specs.BenchSteps.{program_id, there_after, told_octets, told_piece, told_pieces}
pub use Rattle.channel_bench.specs.BenchSteps.{trouble_of, with_matched, with_stray}
unfoldable pub use Rattle.channel_bench.specs.BenchTick.{IsTick, beginning, each_tick, joins, sets_duplex}
unfoldable pub use Rattle.channel_bench.specs.BenchTick.{sets_full_duplex}
pub use Rattle.channel_bench.specs.BenchTick.{AcceptsProgram, ArePartsMade, IsAsked, IsAskedOrCalled}
pub use Rattle.channel_bench.specs.BenchTick.{IsCalled, IsGiven, IsGivenPiece, IsListening, IsPart, Part, Says}
pub use Rattle.channel_bench.specs.BenchTick.{is_complete, kiss_id, parts_of, with_asking, with_calling, with_giving}
pub use Rattle.channel_bench.specs.BenchTick.Part.{AsksOrCalls, Closes, Gives, Listens, Sounds, Tells, Ticks}
pub use Rattle.channel_bench.specs.Hearing.{ArePlainlyReady, AreReady, AreReadyInBlocks, HearsStation}
pub use Rattle.channel_bench.specs.HeldBench.{BlockEarStandsFor, EarStandsFor, PlainEarStandsFor, heard_by}
pub use Rattle.channel_bench.specs.HeldBench.{HasMade, IsGoing, StandsForCommon, StandsForNear}
pub use Rattle.channel_bench.specs.HeldBench.{StandsForRun, StandsForSide, StandsForWays, Unless, acts, hears, sounds}
pub use Rattle.channel_bench.specs.HeldBench.{with_noise_drawn}
pub use Rattle.channel_bench.specs.HostProgram.{ProgramState, call_at, connect_octets, data_octets, disconnect_octets}
pub use Rattle.channel_bench.specs.HostProgram.{full_duplex_octets, getting, most_octets, next_piece, opening}
pub use Rattle.channel_bench.specs.HostProgram.{register_octets, request, request_between, set_ups_of, told, told_all}
pub use Rattle.channel_bench.specs.KeepsOrder.{AreGotFrom, GotInOrder, KeepsOrder}
unfoldable pub use Rattle.channel_bench.specs.Sounding.{carried, reaching, sounding, ticked, with_loss, with_losses}
pub use Rattle.channel_bench.specs.Sounding.{after_noise, is_lost, mark_of, passed_below, sends, sent_in, with_noise}
pub use Rattle.channel_bench.specs.Sounding.{with_samples, with_transmission, with_words}
unfoldable pub use Rattle.channel_bench.specs.Words.{text_of}
pub use Rattle.channel_bench.specs.Words.{seed_at, text_at}
pub use Rattle.channel_bench.specs.declared.block_ear.BlockEar.{BlockEar}
pub use Rattle.channel_bench.specs.declared.ear.Ear.{Ear}
pub use Rattle.channel_bench.specs.declared.ear.Ear.TheVariants.{Blocks, Plain}
pub use Rattle.channel_bench.specs.declared.flight.HeldFrame.{HeldFrame}
pub use Rattle.channel_bench.specs.declared.matching.SentAt.{SentAt}
pub use Rattle.channel_bench.specs.declared.plain_ear.PlainEar.{PlainEar}
pub use Rattle.channel_bench.specs.declared.report.SetUp.{SetUp}
pub use Rattle.channel_bench.specs.declared.run.Run.{Run}
pub use Rattle.channel_bench.specs.declared.shared.Shared.{Shared}
pub use Rattle.channel_bench.specs.declared.side.Side.{Side}
pub use Rattle.channel_bench.specs.declared.trouble.Trouble.{Trouble}
pub use Rattle.channel_bench.specs.declared.trouble.Trouble.TheVariants.{Stray}
pub use Rattle.channel_bench.specs.declared.words.BenchWords.{BenchWords}
pub use Rattle.frame_merge.specs.Merged.{merged}
pub use Rattle.frame_merge.specs.declared.candidate.Candidate.{Candidate}
pub use Rattle.hdlc_framer.specs.FrameLength.{HasFrameLength}
pub use Rattle.link_machine.specs.Event.Event.{Hear}
pub use Rattle.link_machine.specs.Machine.{Machine}
pub use Rattle.link_machine.specs.Sent.{SentIn, sent_frame}
unfoldable pub use Rattle.link_machine.specs.Step.{step}
pub use Rattle.link_machine.specs.Step.{done_of, refusal_of}
pub use Rattle.link_machine.specs.declared.acts.SentFrame.{SentFrame}
pub use Rattle.link_machine.specs.declared.acts.Told.{Told}
pub use Rattle.link_machine.specs.declared.acts.Told.TheVariants.{Ended, Given, Opened}
pub use Rattle.link_machine.specs.declared.state.LinkState.{LinkState}
pub use Rattle.link_machine.specs.declared.state.LinkState.TheVariants.{Calling, Idle, Releasing, Up}
pub use Rattle.link_steps.proofs.Rows.{IsDown, RefusesWide, Row, Settles, Stepped, step_is}
pub use Rattle.link_steps.proofs.Rows.Rests.{as_timed}
pub use Rattle.link_steps.proofs.Rows.Row.{agrees, calls_again, connects, declines, ends_by_disc, ends_by_dm, ends_call}
pub use Rattle.link_steps.proofs.Rows.Row.{gives_up, is_answered, is_called, is_called_again, narrows, falls_narrow}
pub use Rattle.link_steps.proofs.Rows.Row.{releases_again}
pub use Rattle.link_steps.proofs.Rows.Row.{abandons, resets, rests, takes, tells_own, wishes, withdraws, works}
pub use Rattle.link_steps.proofs.Rows.Settles.{goes_on, is_down, releases}
pub use Rattle.link_steps.proofs.Rows.Stepped.{is_refused, makes}
pub use Rattle.link_world.proofs.law.ChangesLaw.{changes_law_holds}
pub use Rattle.link_world.proofs.law.Each.{each_append, each_weaker}
pub use Rattle.link_world.specs.Origin.{GotNothingElse}
pub use Rattle.link_world.specs.Recorded.{RecordedEnd}
pub use Rattle.link_world.specs.World.{other}
pub use Rattle.link_world.specs.declared.end.End.{End}
pub use Rattle.link_world.specs.declared.end.End.TheVariants.{A, B}
pub use Rattle.nrzi_bits.specs.Line.{line}
pub use Rattle.rand_pcg.specs.Lcg.{Lcg}
pub use Rattle.selective_reject.specs.declared.packet.Packet.{Packet}
pub use Rattle.slicer_bank.specs.MergedItems.{AreMergedBetween}
pub use Rattle.station.proofs.MemoryLemmas.{if_took}
pub use Rattle.station.specs.AgwKinds.{connect_kind, data_kind, disconnect_kind, register_kind}
pub use Rattle.station.specs.AgwRequests.{AreAnswered, IsAnswered, IsCall, IsCallMade, called_pid, called_route}
pub use Rattle.station.specs.AgwRequests.{data_pid, disconnecting, giving, giving_packet, may_call, own_key, packet_length}
pub use Rattle.station.specs.AgwRequests.{packets_of}
pub use Rattle.station.specs.AgwRequests.{refused_reply, register_reply, registering, replying, with_registration}
pub use Rattle.station.specs.Asking.{asked_key, asking, asking_at, seizing, some_wants, with_asked}
pub use Rattle.station.specs.CallFields.{call_in}
pub use Rattle.station.specs.Connections.{Connection, connection_of, new_connection, with_connection}
pub use Rattle.station.specs.Heard.{AreOctetsHeard, IsHeard, IsHeardAnew, IsHeardBy, IsHeardMaking, IsReadingHeardAnew}
pub use Rattle.station.specs.Heard.{IsRepeatedFor, destination_field, kiss_data, may_make, showing, showing_to}
pub use Rattle.station.specs.Heard.{shown_to_hosts, source_field, waits_for_repeater, with_shown}
pub use Rattle.station.specs.Held.{ids_after, ids_of, without_ids}
pub use Rattle.station.specs.Host.{AreTaken, AreTakenBy, IsHostTurn, ending, has_place, joining, new_messages, taking, with_host}
pub use Rattle.station.specs.Host.{with_octets}
pub use Rattle.station.specs.HostMessages.{message_of_told, no_call}
pub use Rattle.station.specs.LinkEvents.{event_at, event_of, is_idle, link_event, queueing_frame, queueing_frames}
pub use Rattle.station.specs.LinkEvents.{settled_link, telling_one, telling_to, with_links}
pub use Rattle.station.specs.Links.{Link, Links, key_between, link_at, most_links, with_link, without_link}
pub use Rattle.station.specs.Monitoring.{monitor_pieces}
pub use Rattle.station.specs.NewLinks.{idle_link, making, no_layer_3}
pub use Rattle.station.specs.Registrations.{is_number, may_register, registrar}
pub use Rattle.station.specs.Routes.{Route, path_along}
pub use Rattle.station.specs.State.{StationState, most_held}
unfoldable pub use Rattle.station.specs.Ticks.{ticking_links}
pub use Rattle.station.specs.Ticks.{air_of, asked_links, t1_stands, ticking_at, waits}
pub use Rattle.station.specs.Turn.{Act, Out, Turn, begin, capacity, changing, closing, dropping, entering, in_order}
pub use Rattle.station.specs.Turn.{queueing}
pub use Rattle.station.specs.declared.host_event.HostEvent.{HostEvent}
pub use Rattle.station.specs.declared.host_event.HostEvent.TheVariants.{Bytes, Joined}
pub use Rattle.station.specs.declared.host_event.PortKind.{PortKind}
pub use Rattle.station.specs.declared.host_event.PortKind.TheVariants.{Agw, Kiss}
pub use Rattle.station.specs.declared.host_out.Piece.{Piece}
pub use Rattle.station_laws.proofs.Acts.{asks_when_sent}
pub use Rattle.station_laws.proofs.ChainRun.{RunChain, run_chained}
pub use Rattle.station_laws.proofs.Chains.{AsksInSetUp, IsChain, StandsAsked, StandsCalled, asked_after, asked_append}
pub use Rattle.station_laws.proofs.Chains.{asked_following, after_append, called_after, called_append, called_following}
pub use Rattle.station_laws.proofs.Chains.{chain_asked, chain_parts, last_machine, made_by}
pub use Rattle.station_laws.proofs.EachLink.{matched_for_each, quiet_for_each}
pub use Rattle.station_laws.proofs.Framed.{framed}
pub use Rattle.station_laws.proofs.LinkDid.{is_connect, is_disconnect}
pub use Rattle.station_laws.proofs.MatchedLaws.{matched_law_holds}
pub use Rattle.station_laws.proofs.MatchedOrder.{matched_in_order_holds}
pub use Rattle.station_laws.proofs.Queues.{link_stepped, octets_of}
pub use Rattle.station_laws.proofs.RoomForAsks.{AsksFindRoom, AsksFindRoomAt}
pub use Rattle.station_laws.proofs.SeenLemmas.{set_ups_law_holds}
pub use Rattle.station_laws.proofs.Standing.{calls_chosen}
pub use Rattle.station_laws.proofs.Tables.{each_get, not_both}
pub use Rattle.station_laws.proofs.ValidCalls.{none_by_position}
pub use Rattle.station_laws.proofs.Ways.{queued_by, queued_passed}
pub use Rattle.station_laws.specs.CallerLaw.{BAsksNothing}
pub use Rattle.station_laws.specs.InFlight.{AreMatched, BothWays, IsMatched, IsMatchedIn, LinkFrame, Moment, OneWay}
pub use Rattle.station_laws.specs.InFlight.{after_moment, after_moments, hearing_at, hears_ask, is_ask, is_quiet_at}
pub use Rattle.station_laws.specs.InFlight.{nothing_sent, queueing_all, queueing_at, sent_by, steps_in}
pub use Rattle.station_laws.specs.InFlight.Moment.{Passes, Steps}
pub use Rattle.station_laws.specs.JointRun.{Input, IsTurn, Stations, Step, all_stepped, at_end, queued_at, state_of}
pub use Rattle.station_laws.specs.JointRun.{with_state}
pub use Rattle.station_laws.specs.JointRun.Input.{FromHost, OfClock, OffAir}
pub use Rattle.station_laws.specs.LinkOfCalls.{Calls, first_world, link_at_end, world_of}
pub use Rattle.station_laws.specs.LinkSteps.{Choice, LinkStep, anew_steps, asked_at, asking_steps, by_path_steps}
pub use Rattle.station_laws.specs.LinkSteps.{call_steps, data_steps}
pub use Rattle.station_laws.specs.LinkSteps.{disconnect_steps, heard_steps, hears_at, key_steps, link_step, made_steps}
pub use Rattle.station_laws.specs.LinkSteps.{new_steps, path_steps, reading_steps, sends_at, steps_along, steps_at}
pub use Rattle.station_laws.specs.LinkSteps.{steps_for, steps_of, tick_steps, ticks_at, turn_steps}
pub use Rattle.station_laws.specs.LinksTell.{AreToldInOne, RunsIn, runs_after}
pub use Rattle.station_laws.specs.MatchedLaw.{AsksInRoom, DropsNoAsk, pairs_in}
pub use Rattle.station_laws.specs.RunsTell.{AllToldInOne, runs_following, told_in}
pub use Rattle.station_laws.specs.SetUpsSeen.{IsGivenWhileUp, Seen, as_seen, change_last_seen, link_steps_at, seen_by}
pub use Rattle.station_laws.specs.SetUpsSeen.{seen_by_all, seen_giving, seen_told, set_ups_seen, with_given, with_got}
pub use Rattle.station_laws.specs.StationsLaw.{IsMachineOf, first_chosen}
pub use Rattle.std.proofs.Common.{Bool, List, None, Option, Some, [], ap, arith, cond, drop, false, fold, get_or, inl}
pub use Rattle.std.proofs.Common.{inr, is_none, is_some, length, length-append, map, max, nat_le, nat_lt, not, pos}
pub use Rattle.std.proofs.Common.{refl, replicate, rules, subst, suc, sym, take, true, unsigned_abs, zero, ℕ, ℤ, ◌%◌}
pub use Rattle.std.proofs.Common.{◌&&◌, ◌*◌, ◌++◌, ◌+◌, ◌-◌, ◌/◌, ◌<◌, ◌==◌, ◌^◌, ◌||◌, ◌∙◌, ◌∷◌, ◌≡◌, ◌≢◌, ◌≤◌, ◌⊎◌}
pub use Rattle.std.proofs.lemmas.Bool.{and_parts, cases_lt, eq-eqb, eqb-true, false≢true, leb-false, leb-true, lt-ltb}
pub use Rattle.std.proofs.lemmas.Bool.{ltb-true, ne_eqb, or_cases, or_parts}
pub use Rattle.std.proofs.lemmas.Grind.{flat_map-append}
pub use Rattle.std.proofs.lemmas.List.{append-nil, append_assoc, drop_all, drop_more, length-drop, length-map}
pub use Rattle.std.proofs.lemmas.List.{length-replicate, length-take, map-append, take_all, take_more, take_rest}
pub use Rattle.std.proofs.lemmas.List.Elements.{All-from_recursion, All-replicate, filter-append, recursion_from_All}
pub use Rattle.std.proofs.lemmas.Option.{slice_get-get_or, slice_get-map}
pub use Rattle.std.specs.Bool.{⊤}
pub use Rattle.std.specs.List.{list_any, range_with_len}
pub use Rattle.std.specs.Option.{option_to_list}
pub use Rattle.std.specs.Prelude.{All, IsTrue, MatchBool, count_by, filter, option_map, position, slice_get, ◌↔◌}
