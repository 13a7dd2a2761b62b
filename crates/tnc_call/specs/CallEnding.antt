-- What a whole call is: what it printed and did with the sockets, and why it ended.
use Rattle.std.specs.Prelude.{◌≡◌, ◌≢◌, ℕ, ◌-◌, ◌^◌, ◌<◌, ◌≤◌, ◌⊎◌, Bool, true, false, List, [], ◌∷◌, ◌++◌, All}
use Rattle.std.specs.Prelude.{length, min}
use Rattle.std.specs.Prelude.{Option, Some}
use Rattle.tnc_base.specs.Faults.{HasRisen}
use Rattle.tnc_base.specs.Streams.{WrotePart}
use Rattle.station.specs.declared.host_event.HostEvent.{HostEvent}
use Rattle.station.specs.declared.host_event.HostEvent.TheVariants.{Left}
use Rattle.host_ports.specs.declared.records.Dial.{Dial}
use Rattle.tnc_ports.specs.SampledRun.{GrowsBy}
use Rattle.agwpe_client.specs.declared.call_state.CallState.TheVariants.{Done as DoneState, Refused as RefusedState}
use Rattle.agwpe_client.specs.declared.call_state.CallState.TheVariants.{Broken as BrokenState}
use Rattle.agwpe_client.specs.CallRun.{CallPlan, call_plan, is_over, state_after, sent_after, printed_after}
use Rattle.tnc_call.specs.declared.call_words.CallWords.{CallWords}
use Rattle.tnc_call.specs.declared.call_end.CallEnd.{CallEnd}
use Rattle.tnc_call.specs.declared.call_end.CallEnd.TheVariants.{Done, TooLong, Memory, ReadFault, WriteFault, NoHost}
use Rattle.tnc_call.specs.declared.call_end.CallEnd.TheVariants.{Refused, HostLost, Broken, GaveUp}
use Rattle.tnc_call.specs.CallInput.{text_limit}
use Rattle.host_ports.specs.Sockets.{PortsTold}
use Rattle.tnc_call.specs.CallTrace.{CallTrace, IsTraced, IsAlike, IsAlwaysOffered, IsCallPoll}
use Rattle.tnc_call.specs.CallTrace.{octets_of, octets_in, events_in, count_taken}

-- ---- what is printed

-- all that the client prints on these octets of the host stands after what was written before, or a first part of it
abbrev pub IsPrinted : CallPlan → List ℕ → List ℕ → Option (List ℕ) → Type 0
IsPrinted plan host before written = written ≡ Some (before ++ printed_after plan host)

abbrev pub IsPartPrinted : CallPlan → List ℕ → List ℕ → Option (List ℕ) → Type 0
IsPartPrinted plan host before written = WrotePart before (printed_after plan host) written

-- how many octets there are, up to the greatest count
abbrev pub count_of : List ℕ → ℕ
count_of octets = min (length octets) (2 ^ 64 - 1)

-- ---- why it ends

abbrev pub IsDone : CallPlan → List ℕ → List ℕ → Option (List ℕ) → ℕ → Type 0
IsDone plan host before written got =
    (state_after plan host ≡ DoneState) × IsPrinted plan host before written
    × (got ≡ count_of (printed_after plan host))

abbrev pub IsRefused : CallPlan → List ℕ → List ℕ → Option (List ℕ) → Type 0
IsRefused plan host before written = (state_after plan host ≡ RefusedState) × IsPrinted plan host before written

abbrev pub IsBroken : CallPlan → List ℕ → List ℕ → Option (List ℕ) → ℕ → Type 0
IsBroken plan host before written len = (state_after plan host ≡ BrokenState len) × IsPrinted plan host before written

-- one of these events, which came after these octets, is that the host left, and the call was not over then
pub record HasLeft (plan : CallPlan) (id : ℕ) (host : List ℕ) (events : List HostEvent) : Type 0 where
  pub front : List HostEvent
  pub rest : List HostEvent
  pub is : events ≡ front ++ Left id ∷ rest
  pub going : is_over (state_after plan (host ++ octets_of id front)) ≡ false

-- a send failed, for which octets waited
abbrev pub HasSendFailed : CallPlan → ℕ → CallTrace → ℕ → ℕ → Type 0
HasSendFailed plan id trace faults later =
    HasRisen faults later × (count_taken trace.offers < length (sent_after plan (octets_in id trace.polls)))

-- The call ends so with all octets that came of the host; it may make at most so many polls.
abbrev pub IsEnded : CallPlan → ℕ → ℕ → CallTrace → List ℕ → Option (List ℕ) → ℕ → ℕ → CallEnd → Type 0
IsEnded plan most id trace before written faults later (Done got) =
    IsDone plan (octets_in id trace.polls) before written got
IsEnded plan most id trace before written faults later TooLong = ⊥
IsEnded plan most id trace before written faults later Memory =
    IsPartPrinted plan (octets_in id trace.polls) before written
IsEnded plan most id trace before written faults later ReadFault = ⊥
IsEnded plan most id trace before written faults later WriteFault =
    IsPartPrinted plan (octets_in id trace.polls) before written
IsEnded plan most id trace before written faults later NoHost = ⊥
IsEnded plan most id trace before written faults later Refused =
    IsRefused plan (octets_in id trace.polls) before written
IsEnded plan most id trace before written faults later HostLost =
    (HasLeft plan id [] (events_in trace.polls) ⊎ HasSendFailed plan id trace faults later)
    × IsPartPrinted plan (octets_in id trace.polls) before written
IsEnded plan most id trace before written faults later (Broken len) =
    IsBroken plan (octets_in id trace.polls) before written len
IsEnded plan most id trace before written faults later (GaveUp polls) =
    (polls ≡ most) × (length trace.polls ≡ most) × (is_over (state_after plan (octets_in id trace.polls)) ≡ false)
    × IsPrinted plan (octets_in id trace.polls) before written

-- ---- a whole call

abbrev pub plan_of : CallWords → List ℕ → CallPlan
plan_of words text = call_plan words.own words.remote words.via.items text words.expect

-- The port of the words is dialed, once. Each poll waits up to 100 ms and pauses nobody, and before it nothing waits
-- that the host would have taken. What the host took is the first of what is to be sent to it. In the end its
-- connection is shut, and no other one.
pub record HasCalled (words : CallWords) (text before : List ℕ) (written : Option (List ℕ)) (start now : PortsTold)
    (end : CallEnd) : Type 0 where
  pub fits : length text ≤ text_limit
  pub id : ℕ
  pub dialed : GrowsBy ((record { port = words.agw; id = id }) ∷ []) start.dials now.dials
  pub trace : CallTrace
  pub traced : IsTraced id (sent_after (plan_of words text) (octets_in id trace.polls)) trace start now
  pub polls : All IsCallPoll trace.polls
  pub count : length trace.polls ≤ words.polls
  pub offered : IsAlwaysOffered (plan_of words text) id trace
  pub ended : IsEnded (plan_of words text) words.polls id trace before written start.faults now.faults end
  pub shut : (dials : List Dial) (was : Bool) → start.dials ≡ Some dials → start.is_shut id ≡ Some was
      → now.is_shut id ≡ Some true
  pub not_shut : (other : ℕ) → other ≢ id → now.is_shut other ≡ start.is_shut other
  pub listens : now.listens ≡ start.listens

-- nothing was done
abbrev pub IsUncalled : List ℕ → Option (List ℕ) → PortsTold → PortsTold → Type 0
IsUncalled before written start now = (written ≡ Some before) × (now ≡ start)

-- the port could not be dialed, and nothing else was done
pub record HasNoHost (text before : List ℕ) (written : Option (List ℕ)) (start now : PortsTold) : Type 0 where
  pub fits : length text ≤ text_limit
  pub is_written : written ≡ Some before
  pub failed : HasRisen start.faults now.faults
  pub alike : IsAlike start now
  pub polls : now.polls ≡ start.polls
  pub sends : now.sends ≡ start.sends
  pub sent : (id : ℕ) → now.sent id ≡ start.sent id

-- A call, if the input is this text, and the output was this before.
abbrev pub IsCalled : CallWords → List ℕ → List ℕ → Option (List ℕ) → PortsTold → PortsTold → CallEnd → Type 0
IsCalled words text before written start now (Done got) = HasCalled words text before written start now (Done got)
IsCalled words text before written start now TooLong =
    (text_limit < length text) × IsUncalled before written start now
IsCalled words text before written start now Memory =
    IsUncalled before written start now ⊎ HasCalled words text before written start now Memory
IsCalled words text before written start now ReadFault = IsUncalled before written start now
IsCalled words text before written start now WriteFault = HasCalled words text before written start now WriteFault
IsCalled words text before written start now NoHost = HasNoHost text before written start now
IsCalled words text before written start now Refused = HasCalled words text before written start now Refused
IsCalled words text before written start now HostLost = HasCalled words text before written start now HostLost
IsCalled words text before written start now (Broken len) =
    HasCalled words text before written start now (Broken len)
IsCalled words text before written start now (GaveUp polls) =
    HasCalled words text before written start now (GaveUp polls)
