-- What a call did with the sockets: its polls, and what it offered the host before each of them.
use Rattle.std.specs.Prelude.{◌≡◌, ◌≢◌, ℕ, ◌+◌, ◌<◌, ◌≤◌, ◌⊎◌, ◌==◌, nat_le, Bool, if◌then◌else◌, List, [], ◌∷◌}
use Rattle.std.specs.Prelude.{Any, length, map, filter, sum_by, take, Some}
use Rattle.std.specs.List.{flat_map}
use Rattle.station.specs.declared.host_event.HostEvent.{HostEvent}
use Rattle.station.specs.declared.host_event.HostEvent.TheVariants.{Joined, Bytes, Left}
use Rattle.tnc_ports.specs.SampledRun.{GrowsBy}
use Rattle.host_ports.specs.Sockets.{Poll, PortsTold, Send}
use Rattle.agwpe_client.specs.CallRun.{CallPlan, sent_after}

-- ---- what came

-- the octets of a connection that an event brings
abbrev pub event_octets : ℕ → HostEvent → List ℕ
event_octets id (Joined other kind) = []
event_octets id (Bytes other octets) = if other == id then octets else []
event_octets id (Left other) = []

abbrev pub octets_of : ℕ → List HostEvent → List ℕ
octets_of id events = flat_map (event_octets id) events

abbrev pub events_in : List Poll → List HostEvent
events_in polls = flat_map (λ poll. poll.events) polls

-- all octets of a connection that came with these polls
abbrev pub octets_in : ℕ → List Poll → List ℕ
octets_in id polls = octets_of id (events_in polls)

-- ---- what was done

-- octets that were offered to the host: after how many polls of the call, how many, and how many of them it took
pub record CallOffer : Type 0 where
  pub after : ℕ
  pub offered : ℕ
  pub took : ℕ

-- the polls of a call, and its offers, in order
pub record CallTrace : Type 0 where
  pub polls : List Poll
  pub offers : List CallOffer

abbrev pub no_trace : CallTrace
no_trace = record { polls = []; offers = [] }

-- how many octets the host took, and how many of them before its poll k, counted from 0
abbrev pub count_taken : List CallOffer → ℕ
count_taken offers = sum_by (λ offer. offer.took) offers

abbrev pub offers_before : ℕ → List CallOffer → List CallOffer
offers_before k offers = filter (λ offer. nat_le offer.after k) offers

-- right before poll k the host was offered something, and took less
abbrev pub TookLess : ℕ → CallOffer → Type 0
TookLess k offer = (offer.after ≡ k) × (offer.took < offer.offered)

-- Before poll k nothing waits of what the caller has to send on the octets of the polls before, or the host was offered
-- some of it since then and took less.
abbrev pub IsOfferedBefore : CallPlan → ℕ → CallTrace → ℕ → Type 0
IsOfferedBefore plan id trace k =
    (count_taken (offers_before k trace.offers) ≡ length (sent_after plan (octets_in id (take k trace.polls))))
    ⊎ Any (TookLess k) trace.offers

abbrev pub IsAlwaysOffered : CallPlan → ℕ → CallTrace → Type 0
IsAlwaysOffered plan id trace = (k : ℕ) → k < length trace.polls → IsOfferedBefore plan id trace k

-- it waits up to 100 ms and pauses nobody
abbrev pub IsCallPoll : Poll → Type 0
IsCallPoll poll = (poll.wait ≡ 100) × (poll.paused ≡ [])

-- an offer as the sockets tell it, if so many polls were made before the call
abbrev pub send_of : ℕ → ℕ → CallOffer → Send
send_of id polls offer =
    record { id = id; polls = polls + offer.after; offered = offer.offered; took = offer.took }

-- a send, which is not made if there is nothing to offer
abbrev pub sends_of : ℕ → ℕ → ℕ → ℕ → List Send
sends_of id polls offered took =
    if offered == 0 then [] else (record { id = id; polls = polls; offered = offered; took = took }) ∷ []

-- The sockets tell of these polls and offers, and the host took so much of what was to be sent to it. No other
-- connection was sent anything.
pub record IsTraced (id : ℕ) (octets : List ℕ) (trace : CallTrace) (before after : PortsTold) : Type 0 where
  pub polls : GrowsBy trace.polls before.polls after.polls
  pub sends : (was : List Poll) → before.polls ≡ Some was
      → GrowsBy (map (send_of id (length was)) trace.offers) before.sends after.sends
  pub within : count_taken trace.offers ≤ length octets
  pub sent : GrowsBy (take (count_taken trace.offers) octets) (before.sent id) (after.sent id)
  pub others : (other : ℕ) → other ≢ id → after.sent other ≡ before.sent other

-- nothing was opened, dialed or shut
pub record IsAlike (before after : PortsTold) : Type 0 where
  pub listens : after.listens ≡ before.listens
  pub dials : after.dials ≡ before.dials
  pub shut : (other : ℕ) → after.is_shut other ≡ before.is_shut other
  pub later : before.faults ≤ after.faults
