-- The names that most proofs of this crate cite, passed on from one place.
unfoldable pub use Rattle.agwpe_port.specs.Messages.{spelling}
pub use Rattle.agwpe_port.specs.declared.message.AgwMessage.{AgwMessage}
pub use Rattle.ax25_address.specs.CallText.{IsCallText}
pub use Rattle.ax25_address.specs.Callsign.{Callsign}
pub use Rattle.ax25_address.specs.FramePath.{way_back}
pub use Rattle.ax25_address.specs.SameCall.{is_same_call}
pub use Rattle.ax25_address.specs.declared.path.Path.{Path}
pub use Rattle.ax25_address.specs.declared.path.Role.TheVariants.{Command}
pub use Rattle.ax25_frames.specs.ControlField.{IsNumbered}
pub use Rattle.ax25_frames.specs.FrameOctets.{IsWrittenFrame, control_of}
pub use Rattle.ax25_frames.specs.declared.frame.Frame.{Frame}
pub use Rattle.ax25_frames.specs.declared.frame.Modulus.{Modulus}
pub use Rattle.channel_access.specs.declared.air_tick.Sent.{Sent}
pub use Rattle.kiss_port.specs.WebRequests.{host_items}
pub use Rattle.kiss_port.specs.declared.item.KissItem.{KissItem}
pub use Rattle.link_machine.specs.Done.{Done}
pub use Rattle.link_machine.specs.Event.{Event}
pub use Rattle.link_machine.specs.Event.Event.{Connect, Disconnect, Hear}
pub use Rattle.link_machine.specs.Machine.{Machine, modulus_named}
unfoldable pub use Rattle.link_machine.specs.Step.{step}
pub use Rattle.link_machine.specs.Step.{done_of}
pub use Rattle.link_machine.specs.declared.acts.Told.{Told}
pub use Rattle.link_machine.specs.declared.params.Params.{Params}
pub use Rattle.selective_reject.specs.declared.packet.Packet.{Packet}
pub use Rattle.station.specs.AgwRequests.{AreAnswered, IsCallMade, giving_packet, giving_packets, may_call}
pub use Rattle.station.specs.AgwRequests.{refused_reply, replying}
pub use Rattle.station.specs.CallFields.{call_in}
pub use Rattle.station.specs.Connections.{Connection, connection_of, new_connection, turned_monitor, turned_raw}
unfoldable pub use Rattle.station.specs.FrameSpelling.{frame_octets}
pub use Rattle.station.specs.HasFew.{HasFew}
pub use Rattle.station.specs.Heard.{IsReadAs, IsRepeatedFor, may_make, showing, showing_to, shown_to_hosts}
pub use Rattle.station.specs.Held.{Held, JoinsAnew, ids_in, without_ids}
pub use Rattle.station.specs.HeldLinks.{HeldLinks, IsTable, IsVacant, is_held_between}
pub use Rattle.station.specs.HeldReading.{AreSaidItems, AreSaidMessages, IsSaid, Says}
pub use Rattle.station.specs.HeldRoutes.{as_route}
pub use Rattle.station.specs.Host.{ending, taking, with_host}
pub use Rattle.station.specs.Kiss.{heeding, heeding_all}
pub use Rattle.station.specs.Leaving.{giving_up, without_owner}
pub use Rattle.station.specs.LinkEvents.{event_at, is_idle, queueing_frames, settled_link, telling_to, with_links}
pub use Rattle.station.specs.LinkRequests.{event_of, held_modulus, stepped_link}
pub use Rattle.station.specs.Links.{IsNewKey, Link, Links, count_of_links, key_between, link_at, link_modulus}
pub use Rattle.station.specs.Links.{most_links, with_link}
pub use Rattle.station.specs.Monitored.{modulus_between}
pub use Rattle.station.specs.Monitoring.{monitor_message, monitoring, to_monitors}
pub use Rattle.station.specs.NewLinks.{making, no_layer_3}
pub use Rattle.station.specs.Registrations.{is_number, registrar}
pub use Rattle.station.specs.Routes.{Route, calls_in}
pub use Rattle.station.specs.StandsFor.{AreParts, HasOtherId, IsFreed, IsLive, Reads, Shows, StandsFor}
pub use Rattle.station.specs.StandsFor.{StandsForConnection, StandsForLink, StandsForLinks, StandsForPlace}
pub use Rattle.station.specs.State.{StationState}
pub use Rattle.station.specs.TableSteps.{HasAt, IsSetAt, place_at, settled_at}
unfoldable pub use Rattle.station.specs.Ticks.{ticking_links}
pub use Rattle.station.specs.Ticks.{IsSentFrame, t1_stands, ticking_at, waits}
pub use Rattle.station.specs.Turn.{Out, Turn, begin, changing, closing, in_order, queueing}
pub use Rattle.station.specs.declared.host_event.HostEvent.{HostEvent}
pub use Rattle.station.specs.declared.host_event.PortKind.{PortKind}
pub use Rattle.station.specs.declared.host_event.PortKind.TheVariants.{Agw, Kiss}
pub use Rattle.station.specs.declared.owned_link.OwnedLink.{OwnedLink}
pub use Rattle.station.specs.declared.parts.Parts.{Parts}
pub use Rattle.station.specs.declared.reading.Said.{Said}
pub use Rattle.station.specs.declared.reading.Said.TheVariants.{Items, Messages}
pub use Rattle.station.specs.declared.registration.Registration.{Registration}
pub use Rattle.std.proofs.Common.{ap, append-nil, append_assoc, arith, eqb, get_or, inl, inr, rules, set, subst, sym}
pub use Rattle.std.proofs.Common.{◌∙◌}
pub use Rattle.std.proofs.lemmas.Bool.{cases_lt, cond-false, cond-true, eq-eqb, eqb-true, false≢true}
pub use Rattle.std.proofs.lemmas.Bool.Decides.{nat_tests}
pub use Rattle.std.proofs.lemmas.Fn.{filter_same}
pub use Rattle.std.proofs.lemmas.List.{drop-drop, get_or-set_other, get_or-set_same, length-drop, length-set}
pub use Rattle.std.proofs.lemmas.List.{map-append, take-append-drop, take_all, take_more}
pub use Rattle.std.proofs.lemmas.List.Elements.{filter-append}
pub use Rattle.std.proofs.lemmas.List.FromFn.{map-range_with_len_more}
pub use Rattle.std.proofs.lemmas.List.Sums.{position_or_len_is}
pub use Rattle.std.proofs.lemmas.Result.{on_ok_weaker}
pub use Rattle.std.specs.List.{AllZip, range_with_len}
pub use Rattle.std.specs.Prelude.{All, AllPairs, Bool, Err, IfOk, IfSome, IsTrue, List, MatchBool, None, Ok, OnOk}
pub use Rattle.std.specs.Prelude.{Option, Result, Some, [], cond, count_by, drop, false, filter, find, is_some, length}
pub use Rattle.std.specs.Prelude.{map, nat_lt, not, option_map, position, refl, suc, take, true, zero, ℕ, ◌&&◌, ◌*◌}
pub use Rattle.std.specs.Prelude.{◌++◌, ◌+◌, ◌-◌, ◌<◌, ◌==◌, ◌∷◌, ◌≡◌, ◌≢◌, ◌≤◌, ◌⊎◌}
pub use Rattle.std.specs.Vec.{with_item}
pub use Rattle.tnc_base.specs.declared.fault.OutOfMemory.{OutOfMemory}
