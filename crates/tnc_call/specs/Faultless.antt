-- How a call ends if nothing fails: exactly as the table of the call tells.
use Rattle.std.specs.Prelude.{◌≡◌, ◌≢◌, ℕ, ◌≤◌, ◌⊎◌, List, [], ◌∷◌, ◌++◌, All, length, Option, Some}
use Rattle.tnc_base.specs.Faults.{HasRisen}
use Rattle.station.specs.declared.host_event.HostEvent.TheVariants.{Left}
use Rattle.host_ports.specs.declared.records.Dial.{Dial}
use Rattle.host_ports.specs.Sockets.{Poll, PortsTold}
use Rattle.agwpe_client.specs.declared.call_state.CallState.{CallState}
use Rattle.agwpe_client.specs.declared.call_state.CallState.TheVariants.{Asking, Calling, Up, Done as DoneState}
use Rattle.agwpe_client.specs.declared.call_state.CallState.TheVariants.{Refused as RefusedState}
use Rattle.agwpe_client.specs.declared.call_state.CallState.TheVariants.{Broken as BrokenState}
use Rattle.agwpe_client.specs.CallRun.{state_after, printed_after}
use Rattle.tnc_call.specs.declared.call_words.CallWords.{CallWords}
use Rattle.tnc_call.specs.declared.call_end.CallEnd.{CallEnd}
use Rattle.tnc_call.specs.declared.call_end.CallEnd.TheVariants.{Done, Memory, ReadFault, WriteFault, Refused, Broken}
use Rattle.tnc_call.specs.declared.call_end.CallEnd.TheVariants.{GaveUp}
use Rattle.tnc_call.specs.CallInput.{text_limit}
use Rattle.tnc_call.specs.CallEnding.{IsCalled, count_of, plan_of}
use Rattle.tnc_call.specs.CallTrace.{events_in, octets_in}

-- The text is within its limit, no read, write or call of the sockets failed, and the host, which was dialed under this
-- id, did not leave in the polls of the call, which are these.
pub record IsFaultless (words : CallWords) (text : List ℕ) (start now : PortsTold) (id : ℕ) (polls : List Poll)
    (end : CallEnd) : Type 0 where
  pub fits : length text ≤ text_limit
  pub reads : end ≢ ReadFault
  pub writes : end ≢ WriteFault
  pub sockets : ¬ HasRisen start.faults now.faults
  pub dials : List Dial
  pub had_dialed : start.dials ≡ Some dials
  pub has_dialed : now.dials ≡ Some (dials ++ (record { port = words.agw; id = id }) ∷ [])
  pub polled : List Poll
  pub had_polled : start.polls ≡ Some polled
  pub has_polled : now.polls ≡ Some (polled ++ polls)
  pub stays : All (λ event. event ≢ Left id) (events_in polls)

-- the end in a state, if so many octets were printed and so many polls may be made
abbrev pub end_in : CallState → ℕ → ℕ → CallEnd
end_in Asking got most = GaveUp most
end_in Calling got most = GaveUp most
end_in Up got most = GaveUp most
end_in DoneState got most = Done got
end_in RefusedState got most = Refused
end_in (BrokenState len) got most = Broken len

-- If nothing fails, the octets of the host decide how the call ends, unless memory is wanted.
abbrev pub FaultlessEnds : Type 0
FaultlessEnds = (words : CallWords) (text before : List ℕ) (written : Option (List ℕ)) (start now : PortsTold) (id : ℕ)
    (polls : List Poll) (end : CallEnd) → IsCalled words text before written start now end
    → IsFaultless words text start now id polls end
    → let plan = plan_of words text in let host = octets_in id polls in
    (end ≡ Memory)
    ⊎ (end ≡ end_in (state_after plan host) (count_of (printed_after plan host)) words.polls)
