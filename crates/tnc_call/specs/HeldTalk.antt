-- What is kept of a call under way, and how its parts end. No public clause looks inside.
use Rattle.std.specs.Prelude.{◌≡◌, ◌≢◌, ℕ, ◌+◌, ◌<◌, ◌≤◌, ◌⊎◌, Any, false, List, [], ◌++◌, All, length}
use Rattle.std.specs.Prelude.{Option, Some}
use Rattle.station.specs.declared.host_event.HostEvent.{HostEvent}
use Rattle.agwpe_client.specs.declared.call_state.CallState.TheVariants.{Refused as RefusedState, Broken as BrokenState}
use Rattle.agwpe_client.specs.declared.client_out.ClientOut.{ClientOut}
use Rattle.agwpe_client.specs.CallRun.{CallPlan, is_over, state_after, sent_after, printed_after}
use Rattle.agwpe_client.specs.HeldCall.{StandsFor}
use Rattle.tnc_call.specs.declared.talk.Talk.{Talk}
use Rattle.tnc_call.specs.declared.call_end.CallEnd.{CallEnd}
use Rattle.tnc_call.specs.declared.call_end.CallEnd.TheVariants.{Done, TooLong, Memory, ReadFault, WriteFault, NoHost}
use Rattle.tnc_call.specs.declared.call_end.CallEnd.TheVariants.{Refused, HostLost, Broken, GaveUp}
use Rattle.tnc_call.specs.CallEnding.{IsPrinted, IsPartPrinted, IsDone, IsRefused, IsBroken, HasLeft, IsEnded}
use Rattle.tnc_call.specs.CallEnding.{count_of}
use Rattle.host_ports.specs.Sockets.{PortsTold}
use Rattle.tnc_call.specs.CallTrace.{CallTrace, IsTraced, IsAlike, IsAlwaysOffered, IsCallPoll}
use Rattle.tnc_call.specs.CallTrace.{octets_of, octets_in, count_taken, TookLess}

-- these octets of the host were taken, and the call is not over
pub record GoesOn (talk : Talk) (plan : CallPlan) (host before : List ℕ) (written : Option (List ℕ)) : Type 0 where
  pub client : StandsFor talk.client plan host
  pub going : is_over (state_after plan host) ≡ false
  pub sent : talk.sent.items ≡ sent_after plan host
  pub got : talk.got ≡ count_of (printed_after plan host)
  pub is_printed : IsPrinted plan host before written

-- the client has taken an octet more, which gave this
pub record IsAhead (talk : Talk) (out : ClientOut) (plan : CallPlan) (host before : List ℕ)
    (written : Option (List ℕ)) : Type 0 where
  pub client : StandsFor talk.client plan host
  pub not_refused : state_after plan host ≢ RefusedState
  pub not_broken : (len : ℕ) → state_after plan host ≢ BrokenState len
  pub sent : sent_after plan host ≡ talk.sent.items ++ out.send
  pub printed : List ℕ
  pub prints : printed_after plan host ≡ printed ++ out.print
  pub got : talk.got ≡ count_of printed
  pub is_written : written ≡ Some (before ++ printed)

-- nothing has come
pub record HasBegun (plan : CallPlan) (talk : Talk) : Type 0 where
  pub client : StandsFor talk.client plan []
  pub sent : talk.sent.items ≡ sent_after plan []
  pub taken : talk.taken ≡ 0
  pub got : talk.got ≡ 0

-- the call ends with these octets of the host
abbrev pub Stops : CallPlan → List ℕ → List ℕ → Option (List ℕ) → CallEnd → Type 0
Stops plan host before written (Done got) = IsDone plan host before written got
Stops plan host before written TooLong = ⊥
Stops plan host before written Memory = IsPartPrinted plan host before written
Stops plan host before written ReadFault = ⊥
Stops plan host before written WriteFault = IsPartPrinted plan host before written
Stops plan host before written NoHost = ⊥
Stops plan host before written Refused = IsRefused plan host before written
Stops plan host before written HostLost = ⊥
Stops plan host before written (Broken len) = IsBroken plan host before written len
Stops plan host before written (GaveUp polls) = ⊥

-- the call ends with these events, if these octets of the host came before
abbrev pub StopsBy : CallPlan → ℕ → List ℕ → List HostEvent → List ℕ → Option (List ℕ) → CallEnd → Type 0
StopsBy plan id host events before written HostLost =
    HasLeft plan id host events × IsPartPrinted plan (host ++ octets_of id events) before written
StopsBy plan id host events before written (Done got) =
    Stops plan (host ++ octets_of id events) before written (Done got)
StopsBy plan id host events before written TooLong = ⊥
StopsBy plan id host events before written Memory = Stops plan (host ++ octets_of id events) before written Memory
StopsBy plan id host events before written ReadFault = ⊥
StopsBy plan id host events before written WriteFault =
    Stops plan (host ++ octets_of id events) before written WriteFault
StopsBy plan id host events before written NoHost = ⊥
StopsBy plan id host events before written Refused = Stops plan (host ++ octets_of id events) before written Refused
StopsBy plan id host events before written (Broken len) =
    Stops plan (host ++ octets_of id events) before written (Broken len)
StopsBy plan id host events before written (GaveUp polls) = ⊥

-- between two turns
pub record IsRunning (talk : Talk) (plan : CallPlan) (id : ℕ) (before : List ℕ) (written : Option (List ℕ))
    (start now : PortsTold) (trace : CallTrace) : Type 0 where
  pub goes_on : GoesOn talk plan (octets_in id trace.polls) before written
  pub traced : IsTraced id talk.sent.items trace start now
  pub alike : IsAlike start now
  pub taken : talk.taken ≡ count_taken trace.offers
  pub early : All (λ offer. offer.after < length trace.polls) trace.offers
  pub offered : IsAlwaysOffered plan id trace
  pub polls : All IsCallPoll trace.polls

-- in a turn, between the offer and the poll
pub record HasOffered (talk : Talk) (plan : CallPlan) (id : ℕ) (before : List ℕ) (written : Option (List ℕ))
    (start now : PortsTold) (trace : CallTrace) : Type 0 where
  pub goes_on : GoesOn talk plan (octets_in id trace.polls) before written
  pub traced : IsTraced id talk.sent.items trace start now
  pub alike : IsAlike start now
  pub taken : talk.taken ≡ count_taken trace.offers
  pub early : All (λ offer. offer.after ≤ length trace.polls) trace.offers
  pub offered : IsAlwaysOffered plan id trace
  pub next : (count_taken trace.offers ≡ length (sent_after plan (octets_in id trace.polls)))
      ⊎ Any (TookLess (length trace.polls)) trace.offers
  pub polls : All IsCallPoll trace.polls

-- a turn more was made, after so many polls
pub record TurnsOn (talk : Talk) (plan : CallPlan) (id : ℕ) (before : List ℕ) (written : Option (List ℕ))
    (start now : PortsTold) (made : ℕ) : Type 0 where
  pub next : CallTrace
  pub count : length next.polls ≡ made + 1
  pub running : IsRunning talk plan id before written start now next

-- the call ended in a turn, after so many polls
pub record HasStopped (plan : CallPlan) (id : ℕ) (before : List ℕ) (written : Option (List ℕ)) (start now : PortsTold)
    (made : ℕ) (end : CallEnd) : Type 0 where
  pub next : CallTrace
  pub count : length next.polls ≤ made + 1
  pub traced : IsTraced id (sent_after plan (octets_in id next.polls)) next start now
  pub alike : IsAlike start now
  pub offered : IsAlwaysOffered plan id next
  pub polls : All IsCallPoll next.polls
  pub ended : (most : ℕ) → IsEnded plan most id next before written start.faults now.faults end

-- the call ended within so many turns
pub record HasTalked (plan : CallPlan) (most id : ℕ) (before : List ℕ) (written : Option (List ℕ))
    (start now : PortsTold) (end : CallEnd) : Type 0 where
  pub trace : CallTrace
  pub count : length trace.polls ≤ most
  pub traced : IsTraced id (sent_after plan (octets_in id trace.polls)) trace start now
  pub alike : IsAlike start now
  pub offered : IsAlwaysOffered plan id trace
  pub polls : All IsCallPoll trace.polls
  pub ended : IsEnded plan most id trace before written start.faults now.faults end
