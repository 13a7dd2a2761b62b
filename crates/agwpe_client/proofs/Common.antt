-- The names that most proofs of this crate cite, passed on from one place.
pub use Rattle.agwpe_client.specs.CallMessages.{connect_kind, connect_message, data_kind, data_message, disconnect_kind}
pub use Rattle.agwpe_client.specs.CallMessages.{piece_at, text_octets}
unfoldable pub use Rattle.agwpe_client.specs.CallRun.{call_run}
pub use Rattle.agwpe_client.specs.CallRun.{CallPlan, CallRun, GoesOn, IsFault, begin, is_over, leaving_if_enough}
pub use Rattle.agwpe_client.specs.CallRun.{moving, printed_by, printing, sending, sent_by, state_after, stepped}
pub use Rattle.agwpe_client.specs.CallRun.{with_bad_length, with_message}
pub use Rattle.agwpe_client.specs.CallSteps.{is_of_call, step_of}
pub use Rattle.agwpe_client.specs.HeldCall.{HeldCall, IsAt, StandsFor, given_by, is_before_up, kept_after}
pub use Rattle.agwpe_client.specs.HeldCall.{opening_octets}
pub use Rattle.agwpe_client.specs.declared.call_state.CallState.{CallState}
pub use Rattle.agwpe_client.specs.declared.call_state.CallState.TheVariants.{Asking, Broken, Calling, Done, Refused, Up}
pub use Rattle.agwpe_client.specs.declared.client_out.ClientOut.{ClientOut}
pub use Rattle.agwpe_client.specs.declared.fault.ClientFault.{ClientFault}
pub use Rattle.agwpe_client.specs.declared.fault.ClientFault.TheVariants.{Over}
pub use Rattle.agwpe_client.specs.declared.step.Step.{Step}
pub use Rattle.agwpe_client.specs.declared.step.Step.TheVariants.{Connect, End, Ignore, Print, Refuse, Talk}
pub use Rattle.agwpe_port.specs.CallField.{call_field}
pub use Rattle.agwpe_port.specs.Held.{Held}
unfoldable pub use Rattle.agwpe_port.specs.Messages.{spelling}
pub use Rattle.agwpe_port.specs.Messages.{bad_length_in, messages_in}
pub use Rattle.agwpe_port.specs.declared.message.AgwMessage.{AgwMessage}
pub use Rattle.std.proofs.Common.{Bool, Err, List, None, Ok, Option, Result, Some, [], ap, append-nil, append_assoc}
pub use Rattle.std.proofs.Common.{arith, cond, drop, eqb, false, length, length-append, min, refl, subst, sym, take}
pub use Rattle.std.proofs.Common.{true, ℕ, ◌*◌, ◌++◌, ◌+◌, ◌-◌, ◌∙◌, ◌∷◌, ◌≡◌, ◌≢◌}
pub use Rattle.std.proofs.lemmas.Bool.{eqb-true}
pub use Rattle.std.proofs.lemmas.List.Sums.{fold-append}
pub use Rattle.std.specs.List.{flat_map, range_with_len}
pub use Rattle.std.specs.Result.{MatchResult}
