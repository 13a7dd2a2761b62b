-- What contracts see of sockets in memory, which give the events of a script.
use Rattle.std.specs.Prelude.{ℕ, ◌==◌, Bool, false, true, if◌then◌else◌, List, [], ◌∷◌, ◌++◌, length, map}
use Rattle.std.specs.List.{list_any, flat_map}
use Rattle.station.specs.declared.host_event.HostEvent.{HostEvent}
use Rattle.host_ports.specs.declared.records.Listen.{Listen}
use Rattle.host_ports.specs.declared.records.Dial.{Dial}
use Rattle.host_ports.specs.declared.records.Taken.{Taken}
use Rattle.host_ports.specs.declared.records.Came.{Came}
use Rattle.host_ports.specs.Sockets.{Poll, Send, id_of, is_octets_of, is_joining_of}

pub record PortsView : Type 0 where
  -- each event with the number of its poll, counted from 0
  pub script : List (ℕ × HostEvent)
  -- the numbers of the calls of listen, dial, poll and send that fail, counted together
  pub failing : List ℕ
  -- the most octets that a send takes
  pub takes : ℕ
  -- the number of the next such call
  pub calls : ℕ
  pub faults : ℕ
  pub listens : List Listen
  pub dials : List Dial
  pub polls : List Poll
  -- the events that were due at a poll so far and are not given yet
  pub waiting : List HostEvent
  -- the connections that came or were dialed
  pub came : List Came
  pub sends : List Taken

-- sockets that no call has used
abbrev pub new_ports : List (ℕ × HostEvent) → List ℕ → ℕ → PortsView
new_ports script failing takes = record {
  script = script;
  failing = failing;
  takes = takes;
  calls = 0;
  faults = 0;
  listens = [];
  dials = [];
  polls = [];
  waiting = [];
  came = [];
  sends = [];
}

-- ---- what a poll gives

abbrev pub due_of : ℕ → ℕ × HostEvent → List HostEvent
due_of number entry = if entry.0 == number then entry.1 ∷ [] else []

-- the events of the script for the poll of a number
abbrev pub scripted_for : ℕ → List (ℕ × HostEvent) → List HostEvent
scripted_for number [] = []
scripted_for number (entry ∷ script) = due_of number entry ++ scripted_for number script

-- what is due at the next poll: what waits, and then what the script has for it
abbrev pub due : PortsView → List HostEvent
due ports = ports.waiting ++ scripted_for (length ports.polls) ports.script

abbrev pub is_paused : List ℕ → ℕ → Bool
is_paused paused id = list_any (λ other. other == id) paused

-- The last of these events has to wait: its connection is paused, and it, or an event of that connection before it, is
-- octets.
abbrev pub has_to_wait : List ℕ → List HostEvent → HostEvent → Bool
has_to_wait paused upto event =
    if is_paused paused (id_of event) then list_any (is_octets_of (id_of event)) upto else false

-- of these events, after those before them, the ones that have to wait, and the ones that need not
abbrev pub waiting_of : List ℕ → List HostEvent → List HostEvent → List HostEvent
waiting_of paused before [] = []
waiting_of paused before (event ∷ events) =
    (if has_to_wait paused (before ++ event ∷ []) event then event ∷ [] else [])
    ++ waiting_of paused (before ++ event ∷ []) events

abbrev pub given_of : List ℕ → List HostEvent → List HostEvent → List HostEvent
given_of paused before [] = []
given_of paused before (event ∷ events) =
    (if has_to_wait paused (before ++ event ∷ []) event then [] else event ∷ [])
    ++ given_of paused (before ++ event ∷ []) events

-- ---- what is told

-- the connection that each dial gives
abbrev pub dialed_id : ℕ
dialed_id = 1

-- the connection that joins with an event
abbrev pub joined_of : HostEvent → List Came
joined_of event = if is_joining_of (id_of event) event then (record { id = id_of event; shut = false }) ∷ [] else []

-- those that join with these events
abbrev pub joined_in : List HostEvent → List Came
joined_in [] = []
joined_in (event ∷ events) = joined_of event ++ joined_in events

-- the connection came or was dialed, and was shut
abbrev pub was_shut : List Came → ℕ → Bool
was_shut came id = list_any (λ one. if one.id == id then one.shut else false) came

-- a connection of an id, shut
abbrev pub shut_one : ℕ → Came → Came
shut_one id one = if one.id == id then record one { shut = true } else one

-- all connections of an id, shut
abbrev pub with_shut : ℕ → List Came → List Came
with_shut id came = map (shut_one id) came

-- the octets that a connection was sent
abbrev pub sent_to : ℕ → List Taken → List ℕ
sent_to id sends = flat_map (λ send. if send.id == id then send.octets else []) sends

abbrev pub as_told : Taken → Send
as_told send = record { id = send.id; polls = send.polls; offered = send.offered; took = length send.octets }
