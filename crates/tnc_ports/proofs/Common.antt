-- The names that most proofs of this crate cite, passed on from one place.
pub use Rattle.channel_access.specs.declared.air_tick.AirTick.{AirTick}
pub use Rattle.channel_access.specs.declared.air_tick.Sent.{Sent}
pub use Rattle.frame_merge.specs.declared.candidate.Candidate.{Candidate}
pub use Rattle.live_receiver.specs.Listening.{AreDueBy, readers_wanted}
pub use Rattle.live_receiver.specs.LiveReceivers.{Hears, LanesListen, answers_in, detection_of, listening_of, readers_in}
pub use Rattle.live_receiver.specs.declared.receiver.LiveReceiver.{LiveReceiver}
pub use Rattle.sample_ring.specs.Ends.{reader_ring, record_of, ring_id, ring_len}
pub use Rattle.sample_ring.specs.Record.{StandsIn, answer}
pub use Rattle.sample_ring.specs.declared.got.Got.{Got}
pub use Rattle.sample_ring.specs.declared.got.Got.TheVariants.{Empty, End, Gap, Item}
pub use Rattle.sample_ring.specs.declared.reader.Reader.{Reader}
pub use Rattle.sample_ring.specs.declared.view.Track.{Track}
pub use Rattle.slicer_bank.specs.HeardOnRing.{lane_of, least_position}
pub use Rattle.slicer_bank.specs.RingLanes.{answers_of}
pub use Rattle.slicer_bank.specs.RingTurns.{MeetsEnd, gaps_of}
pub use Rattle.slicer_bank.specs.declared.advance.LaneGap.{LaneGap}
pub use Rattle.station.specs.Host.{IsHostTurn}
pub use Rattle.station.specs.Links.{Links}
pub use Rattle.station.specs.State.{StationState}
pub use Rattle.station.specs.Turn.{Out, Turn}
pub use Rattle.station.specs.declared.config.Config.{Config}
pub use Rattle.station.specs.declared.host_event.HostEvent.{HostEvent}
pub use Rattle.station.specs.declared.host_event.HostEvent.TheVariants.{Bytes, Joined, Left}
pub use Rattle.station.specs.declared.host_event.PortKind.{PortKind}
pub use Rattle.station.specs.declared.host_out.Piece.{Piece}
pub use Rattle.std.proofs.Common.{[], ap, append_assoc, arith, drop, get_or, inl, inr, length, map, refl, rules}
pub use Rattle.std.proofs.Common.{subst, sym, take, ℕ, ◌*◌, ◌++◌, ◌+◌, ◌-◌, ◌/◌, ◌<◌, ◌∙◌, ◌≡◌, ◌≤◌}
pub use Rattle.std.proofs.Math.ListN.{get_or-map}
pub use Rattle.std.proofs.lemmas.Bool.{cases_Bool, cases_eq, cond-false, cond-true, eq-eqb, eqb-true}
pub use Rattle.std.proofs.lemmas.Bool.{false_from_ne_true, false≢true, le-leb, ne_eqb, or_cases, or_left, or_parts}
pub use Rattle.std.proofs.lemmas.Bool.{or_right, true≢false}
pub use Rattle.std.proofs.lemmas.Grind.{flat_map-append}
pub use Rattle.std.proofs.lemmas.List.{append-nil, length-append, length-map, length-take-le, map-append}
pub use Rattle.std.proofs.lemmas.List.{take-append-drop, take-append-le, take_more}
pub use Rattle.std.proofs.lemmas.List.Elements.{All-append}
pub use Rattle.std.proofs.lemmas.List.Folds.{list_any-append}
pub use Rattle.std.specs.List.{flat_map, list_any}
pub use Rattle.std.specs.Prelude.{All, Bool, Contains, Err, IsTrue, List, None, Ok, OnErr, OnOk, Option, Result, Some}
pub use Rattle.std.specs.Prelude.{cond, false, filter, if◌then◌else◌, is_err, not, replicate, suc, true, zero, ℤ}
pub use Rattle.std.specs.Prelude.{◌==◌, ◌||◌, ◌↔◌, ◌∷◌, ◌≢◌, ◌⊎◌}
pub use Rattle.tnc_base.specs.Faults.{HasRisen}
pub use Rattle.tnc_base.specs.Streams.{Gives, WrotePart, SinkTold}
pub use Rattle.host_ports.specs.AskedPorts.{AreUnasked, IsAsked, poll_of, send_of, taken_of}
pub use Rattle.host_ports.specs.CutPart.{IsCutInSending}
pub use Rattle.host_ports.specs.HeldHosts.{StandsFor}
pub use Rattle.host_ports.specs.HostTurns.{AreTaken, AreTried, Asked, InOrder, IsHostPart}
pub use Rattle.host_ports.specs.HostTurns.{IsOffered, IsOfferedTo, IsTaken, IsTried, Offer, Offering, ids_of_clients}
pub use Rattle.host_ports.specs.HostTurns.{joining}
pub use Rattle.host_ports.specs.Hosts.{AllHaveLeft, HaveLeft, Hosts, IsDelivered, IsStep, appending, appending_one}
pub use Rattle.host_ports.specs.Hosts.{appending_to, closing, closing_all, closing_one, cutting, delivering, fits}
pub use Rattle.host_ports.specs.Hosts.{is_among, is_client_of, is_there, client_of, new_hosts, waiting_too, was_there}
pub use Rattle.host_ports.specs.Hosts.{with_waiting, without}
pub use Rattle.tnc_ports.specs.Inlet.{Step}
pub use Rattle.tnc_ports.specs.Inlet.Step.{Publishes}
pub use Rattle.tnc_ports.specs.OddOctet.{count_of, ended, odd_after, odd_octet}
pub use Rattle.tnc_ports.specs.Pumped.{IsPumped, most_input}
pub use Rattle.tnc_ports.specs.ReportText.{output_octets, report_text}
pub use Rattle.tnc_ports.specs.ReportedGaps.{AreAllGaps, AreFirstGaps, gaps_in}
pub use Rattle.tnc_ports.specs.Sampled.{AreHeard, AreTicked, HaveEnded, HearsAll, IsTurn, LanesReadOn, Live, MakesAll}
pub use Rattle.tnc_ports.specs.KeyTurns.{CallsKey, TicksKeyIf, TurnsKeyIf, Whole, is_held, key_line}
pub use Rattle.tnc_ports.specs.Sampled.{IsKeyTurn, gap_line, new_live, octets_sent, with_hosts}
pub use Rattle.tnc_ports.specs.SampledFrames.{AreReceivedLines, AreSentLines, IsFrameHeard, IsTickMade, with_lines}
pub use Rattle.tnc_ports.specs.SampledHeld.{HearsFrames, HearsSome, IsCutOff, Keeps, Reads, Runs, ServesAll}
pub use Rattle.tnc_ports.specs.SampledHeld.{From, KeyedSince, RunsOut, StandsForLive, Ticks, TicksAll, Turns, TurnsTheKey}
pub use Rattle.tnc_ports.specs.SampledHeld.{from_of}
pub use Rattle.tnc_ports.specs.SampledRun.{AllIsWritten, AreTurns, IsCutInReading, IsCutInServing, IsCutRun, IsCutTurn}
pub use Rattle.tnc_ports.specs.SampledRun.{IsLooped, IsRun, Outside, PortsTell}
pub use Rattle.tnc_ports.specs.SampledWrites.{Puts, ReportsMore, WritesMore}
pub use Rattle.host_ports.specs.SentSoFar.{IsOrderly, octets_for}
pub use Rattle.tnc_ports.specs.ServedHosts.{IsShutHavingCome, NoneTwice, closed_by, ids_closed, octets_to}
pub use Rattle.host_ports.specs.Sockets.{MayCome, Poll, PortsTold, has_come, is_joining_of}
pub use Rattle.host_ports.specs.Waiting.{after_sending, front_of, most_octets, octets_of, with_piece}
pub use Rattle.host_ports.specs.declared.client.Client.{Client}
pub use Rattle.tnc_ports.specs.declared.looping.LoopEnd.TheVariants.{Memory}
pub use Rattle.tnc_ports.specs.declared.pumping.PumpEnd.TheVariants.{InputEnd, ReadFault, TooLong}
pub use Rattle.host_ports.specs.declared.report_line.ReportLine.{ReportLine}
pub use Rattle.host_ports.specs.declared.report_line.ReportLine.TheVariants.{ClosedLine, ReceivedLine, SentLine}
pub use Rattle.tnc_ports.specs.declared.serve_words.KeyWords.{KeyWords}
pub use Rattle.tnc_ports.specs.declared.serve_words.ServeWords.{ServeWords}
pub use Rattle.tnc_ports.specs.declared.turning.Turning.{Turning}
pub use Rattle.host_ports.specs.declared.untaken.Untaken.{Untaken}
unfoldable pub use Rattle.wav_file.specs.Samples.{sample_of}
pub use Rattle.wav_file.specs.Samples.{samples}
