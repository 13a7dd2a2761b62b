-- The names that most proofs of this crate cite, passed on from one place.
pub use Rattle.station.specs.Held.{ids_after, ids_of}
pub use Rattle.station.specs.Host.{IsHostTurn}
pub use Rattle.station.specs.State.{StationState}
pub use Rattle.station.specs.Turn.{Out, Turn}
pub use Rattle.station.specs.declared.config.Config.{Config}
pub use Rattle.station.specs.declared.host_event.HostEvent.{HostEvent}
pub use Rattle.station.specs.declared.host_event.HostEvent.TheVariants.{Bytes, Joined, Left}
pub use Rattle.station.specs.declared.host_event.PortKind.{PortKind}
pub use Rattle.station.specs.declared.host_event.PortKind.TheVariants.{Agw, Kiss}
pub use Rattle.station.specs.declared.host_out.Piece.{Piece}
pub use Rattle.std.proofs.Common.{[], ap, append_assoc, arith, drop, get_or, inl, inr, length, refl, rules, set}
pub use Rattle.std.proofs.Common.{subst, sum, sym, take, ℕ, ◌++◌, ◌+◌, ◌-◌, ◌<◌, ◌∙◌, ◌≡◌, ◌≤◌}
pub use Rattle.std.proofs.Math.Seq.{take-length}
pub use Rattle.std.proofs.lemmas.Bool.{and_parts, cases_Bool, cases_eq, cond-false, cond-true, eq-eqb, eqb-true}
pub use Rattle.std.proofs.lemmas.Bool.{false_from_ne_true, false≢true, le-leb, ne_eqb, or_cases, or_left, or_parts}
pub use Rattle.std.proofs.lemmas.Bool.{or_right, true≢false}
pub use Rattle.std.proofs.lemmas.Bool.Decides.{nat_tests}
pub use Rattle.std.proofs.lemmas.Fn.{filter_same}
pub use Rattle.std.proofs.lemmas.Grind.{flat_map-append}
pub use Rattle.std.proofs.lemmas.List.{append-nil, length-append, length-drop, length-map, length-take-le, map-append}
pub use Rattle.std.proofs.lemmas.List.{take-append-drop, take-append-le, take_more}
pub use Rattle.std.proofs.lemmas.List.Elements.{All-append}
pub use Rattle.std.proofs.lemmas.List.Folds.{list_any-append}
pub use Rattle.std.proofs.lemmas.Result.{on_ok_weaker}
pub use Rattle.std.specs.List.{list_any, slice_get}
pub use Rattle.std.specs.Prelude.{All, Bool, Contains, Err, IsTrue, List, None, Ok, OnErr, OnOk, Option, Result, Some}
pub use Rattle.std.specs.Prelude.{cond, false, filter, if◌then◌else◌, not, suc, true, zero, ◌&&◌}
pub use Rattle.std.specs.Prelude.{◌==◌, ◌||◌, ◌↔◌, ◌∷◌, ◌≢◌}
pub use Rattle.tnc_base.specs.Faults.{HasRisen}
pub use Rattle.host_ports.specs.AskedPorts.{AreOffered, AreShut, AreUnasked, IsAsked, send_of, taken_of}
pub use Rattle.host_ports.specs.CutPart.{IsCutInSending}
pub use Rattle.host_ports.specs.HeldHosts.{AreParts, IsAtRest, IsKnown, Moves, MovesBy, Narrows, StandsFor, is_known}
pub use Rattle.host_ports.specs.HeldHosts.{is_named, joins, leaves, weight}
pub use Rattle.host_ports.specs.HostTurns.{ArePaused, AreTaken, AreTried, Asked, HasToWait, InOrder, IsHostPart}
pub use Rattle.host_ports.specs.HostTurns.{IsOffered, IsOfferedTo, IsTaken, IsTried, Offer, Offering, ids_of_clients}
pub use Rattle.host_ports.specs.HostTurns.{is_from, joining}
pub use Rattle.host_ports.specs.Hosts.{AllHaveLeft, HaveLeft, Hosts, IsDelivered, IsStep, appending, appending_one}
pub use Rattle.host_ports.specs.Hosts.{appending_to, closing, closing_all, closing_one, cutting, delivering, fits}
pub use Rattle.host_ports.specs.Hosts.{is_among, is_client_of, is_there, client_of, new_hosts, waiting_too, was_there}
pub use Rattle.host_ports.specs.Hosts.{with_waiting, without}
pub use Rattle.host_ports.specs.IdRanges.{is_within}
pub use Rattle.host_ports.specs.RealSockets.{Admits, OpenIds, Rise, ids_of_sockets, joined_ids}
pub use Rattle.host_ports.specs.Scripts.{PortsView, due_of, given_of, has_to_wait, joined_in, joined_of, scripted_for}
pub use Rattle.host_ports.specs.Scripts.{shut_one, waiting_of, was_shut, with_shut}
pub use Rattle.host_ports.specs.SentSoFar.{IsOrderly, octets_for}
pub use Rattle.host_ports.specs.Sockets.{IsWholePiece, MayCome, Poll, Send, has_come, has_dialed, is_joining_of}
pub use Rattle.host_ports.specs.Sockets.{PortsTold, is_octets_of}
pub use Rattle.host_ports.specs.Waiting.{after_sending, following, cut, front_of, most_octets, octets_of, with_piece}
pub use Rattle.host_ports.specs.declared.host_parts.HostParts.{HostParts}
pub use Rattle.host_ports.specs.declared.client.Client.{Client}
pub use Rattle.host_ports.specs.declared.report_line.ReportLine.{ReportLine}
pub use Rattle.host_ports.specs.declared.report_line.ReportLine.TheVariants.{ClosedLine}
pub use Rattle.host_ports.specs.declared.socket.Socket.{Socket}
pub use Rattle.host_ports.specs.declared.untaken.Untaken.{Untaken}
