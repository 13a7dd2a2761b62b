-- The names that most proofs of this crate cite, passed on from one place.
pub use Rattle.agwpe_client.proofs.GrowLemmas.{Grows, run_grows}
unfoldable pub use Rattle.agwpe_client.specs.CallRun.{call_run}
pub use Rattle.agwpe_client.specs.CallRun.{CallPlan, CallRun, is_over, printed_after, sent_after, state_after}
pub use Rattle.agwpe_client.specs.declared.call_state.CallState.{CallState}
pub use Rattle.agwpe_client.specs.declared.call_state.CallState.TheVariants.{Asking, Calling, Up}
pub use Rattle.agwpe_client.specs.declared.client_out.ClientOut.{ClientOut}
pub use Rattle.station.specs.declared.host_event.HostEvent.{HostEvent}
pub use Rattle.station.specs.declared.host_event.HostEvent.TheVariants.{Left}
pub use Rattle.std.proofs.Common.{All, Bool, Err, List, MatchOption, None, Option, Some, [], ap, append-nil}
pub use Rattle.std.proofs.Common.{append_assoc, arith, drop, eqb, false, get_or, inl, inr, length, length-append, min}
pub use Rattle.std.proofs.Common.{refl, subst, sym, take, true, ℕ, ◌++◌, ◌+◌, ◌-◌, ◌<◌, ◌^◌, ◌∙◌, ◌∷◌, ◌≡◌, ◌≢◌, ◌≤◌}
pub use Rattle.std.proofs.Common.{◌⊎◌}
pub use Rattle.std.proofs.Math.Seq.{get_or-append_seam}
pub use Rattle.std.proofs.lemmas.Bool.{eq-eqb}
pub use Rattle.std.proofs.lemmas.Grind.{flat_map-append}
pub use Rattle.std.proofs.lemmas.List.{length_push, take-append-drop}
pub use Rattle.std.proofs.lemmas.List.Elements.{All-push}
pub use Rattle.tnc_base.specs.Faults.{HasRisen}
pub use Rattle.tnc_base.specs.Streams.{WrotePart}
pub use Rattle.tnc_call.specs.CallEnding.{HasCalled, HasLeft, HasSendFailed, IsCalled, IsEnded, IsPartPrinted, count_of}
pub use Rattle.tnc_call.specs.CallEnding.{plan_of}
pub use Rattle.tnc_call.specs.CallInput.{text_limit}
pub use Rattle.tnc_call.specs.CallTrace.{CallTrace, IsAlike, IsTraced, event_octets, events_in, no_trace}
pub use Rattle.tnc_call.specs.CallTrace.{octets_in, octets_of}
pub use Rattle.tnc_call.specs.HeldTalk.{GoesOn, HasBegun, HasOffered, HasTalked, IsRunning, Stops, StopsBy}
pub use Rattle.tnc_call.specs.declared.call_end.CallEnd.{CallEnd}
pub use Rattle.tnc_call.specs.declared.call_end.CallEnd.TheVariants.{Broken, Done, GaveUp, HostLost, Memory, NoHost}
pub use Rattle.tnc_call.specs.declared.call_end.CallEnd.TheVariants.{ReadFault, Refused, TooLong, WriteFault}
pub use Rattle.tnc_call.specs.declared.call_words.CallWords.{CallWords}
pub use Rattle.tnc_call.specs.declared.talk.Talk.{Talk}
pub use Rattle.tnc_ports.specs.SampledRun.{GrowsBy}
pub use Rattle.host_ports.specs.Sockets.{Poll, PortsTold}
pub use Rattle.host_ports.specs.declared.records.Dial.{Dial}
