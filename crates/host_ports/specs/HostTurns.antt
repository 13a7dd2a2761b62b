-- What a turn does for hosts: it polls once, takes what waits and then what came, and offers each connection the rest
-- of one piece.
use Rattle.std.specs.Prelude.{◌≡◌, ◌≢◌, ℕ, ◌≤◌, ◌⊎◌, ◌↔◌, ◌==◌, Bool, true, false, List, [], ◌∷◌, ◌++◌, length, map}
use Rattle.std.specs.Prelude.{take, Contains, IsTrue, Option, Some, None}
use Rattle.std.specs.List.{list_any}
use Rattle.std.specs.List.Sorted.{IsStrictlyIncreasing}
use Rattle.station.specs.declared.host_event.HostEvent.{HostEvent}
use Rattle.station.specs.declared.host_event.HostEvent.TheVariants.{Joined, Bytes, Left}
use Rattle.station.specs.declared.host_event.PortKind.{PortKind}
use Rattle.station.specs.Host.{IsHostTurn}
use Rattle.station.specs.State.{Accepts}
use Rattle.host_ports.specs.declared.client.Client.{Client}
use Rattle.host_ports.specs.declared.untaken.Untaken.{Untaken}
use Rattle.host_ports.specs.Hosts.{Hosts, is_there, was_there, without, cutting, with_waiting, client_of, IsStep}
use Rattle.host_ports.specs.Hosts.{AllHaveLeft}
use Rattle.host_ports.specs.Waiting.{front_of, after_sending}

-- one step for each of these, in order
abbrev pub InOrder : {A S : Type 0} → (A → S → S → Type 0) → List A → S → S → Type 0
InOrder step [] before after = after ≡ before
InOrder {A} {S} step (x ∷ xs) before after = (between : S) × step x before between × InOrder step xs between after

-- ---- which octets wait

abbrev pub is_from : ℕ → Untaken → Bool
is_from id one = one.id == id

-- octets of the connection came before and are not taken yet
abbrev pub has_untaken : ℕ → Hosts → Bool
has_untaken id hosts = list_any (is_from id) hosts.untaken

-- octets of the connection have to wait: earlier ones wait, or the station does not accept them
abbrev pub HasToWait : ℕ → Hosts → Type 0
HasToWait id hosts = IsTrue (has_untaken id hosts) ⊎ (¬ Accepts id hosts.station)

-- what a poll pauses: exactly the connections whose octets would have to wait, rising
pub record ArePaused (hosts : Hosts) (paused : List ℕ) : Type 0 where
  pub rising : IsStrictlyIncreasing paused
  pub exactly : (id : ℕ) → Contains paused id ↔ (IsTrue (is_there id hosts) × HasToWait id hosts)

-- ---- what is taken

abbrev pub AreHostStep : HostEvent → Hosts → Hosts → Type 0
AreHostStep event = IsStep (IsHostTurn event)

abbrev pub holding : ℕ → List ℕ → Hosts → Hosts
holding id octets hosts = record hosts { untaken = hosts.untaken ++ (record { id = id; octets = octets }) ∷ [] }

-- octets of a connection are passed over if it is not there, and else wait or are taken
abbrev pub AreTaken : ℕ → List ℕ → Hosts → Hosts → Type 0
AreTaken id octets before after =
    ((is_there id before ≡ false) × (after ≡ before))
    ⊎ ((is_there id before ≡ true) × HasToWait id before × (after ≡ holding id octets before))
    ⊎ ((is_there id before ≡ true) × (¬ HasToWait id before) × AreHostStep (Bytes id octets) before after)

-- what waited is tried again
abbrev pub IsTried : Untaken → Hosts → Hosts → Type 0
IsTried one = AreTaken one.id one.octets

abbrev pub AreTried : Hosts → Hosts → Type 0
AreTried before after = InOrder IsTried before.untaken (record before { untaken = [] }) after

abbrev pub joining : ℕ → Hosts → Hosts
joining id hosts = record hosts {
  came = hosts.came ++ id ∷ [];
  clients = hosts.clients ++ (record { id = id; waiting = [] }) ∷ [];
}

-- one that was there before is passed over
abbrev pub HasJoined : ℕ → PortKind → Hosts → Hosts → Type 0
HasJoined id kind before after =
    ((was_there id before ≡ true) × (after ≡ before))
    ⊎ ((was_there id before ≡ false) × AreHostStep (Joined id kind) (joining id before) after)

-- one that is not there is passed over
abbrev pub HasLeft : ℕ → Hosts → Hosts → Type 0
HasLeft id before after =
    ((is_there id before ≡ false) × (after ≡ before))
    ⊎ ((is_there id before ≡ true) × AreHostStep (Left id) (without id before) after)

abbrev pub IsTaken : HostEvent → Hosts → Hosts → Type 0
IsTaken (Joined id kind) before after = HasJoined id kind before after
IsTaken (Bytes id octets) before after = AreTaken id octets before after
IsTaken (Left id) before after = HasLeft id before after

-- ---- what is sent

-- a send that did not fail: the connection, the octets that it was offered, and how many of them it took
pub record Offer : Type 0 where
  pub id : ℕ
  pub octets : List ℕ
  pub took : ℕ

-- the hosts, what they were offered so far, and the connections whose send failed
pub record Offering : Type 0 where
  pub hosts : Hosts
  pub offers : List Offer
  pub failed : List ℕ

-- a connection takes a first part of what it is offered
pub record Takes (client : Client) (before after : Offering) : Type 0 where
  pub took : ℕ
  pub part : took ≤ length (front_of client.waiting)
  pub rest : after.hosts ≡ record before.hosts {
    clients = with_waiting client.id (after_sending took client.waiting) before.hosts.clients;
    sent = before.hosts.sent ++ (record { id = client.id; octets = take took (front_of client.waiting) }) ∷ [];
  }
  pub offered : after.offers ≡ before.offers ++ (record { id = client.id; octets = front_of client.waiting; took = took })
      ∷ []
  pub no_failure : after.failed ≡ before.failed

-- its send fails, and it is shut
pub record Fails (client : Client) (before after : Offering) : Type 0 where
  pub leave : AllHaveLeft (cutting client.id before.hosts) after.hosts
  pub offered : after.offers ≡ before.offers
  pub failure : after.failed ≡ before.failed ++ client.id ∷ []

-- A connection for which something waits is offered the rest of the front piece, once.
abbrev pub IsOfferedTo : Option Client → Offering → Offering → Type 0
IsOfferedTo None before after = after ≡ before
IsOfferedTo (Some client) before after =
    ((client.waiting ≡ []) × (after ≡ before)) ⊎ ((client.waiting ≢ []) × Takes client before after)
    ⊎ ((client.waiting ≢ []) × Fails client before after)

abbrev pub IsOffered : ℕ → Offering → Offering → Type 0
IsOffered id before after = IsOfferedTo (client_of id before.hosts.clients) before after

-- ---- the part of a turn that is for hosts

-- what the sockets were asked and gave in a turn
pub record Asked : Type 0 where
  pub paused : List ℕ
  pub events : List HostEvent
  pub offers : List Offer
  -- the connections whose send failed
  pub failed : List ℕ
  -- the connections that were shut, in order
  pub shut : List ℕ

abbrev pub ids_of_clients : List Client → List ℕ
ids_of_clients clients = map (λ client. client.id) clients

pub record IsHostPart (asked : Asked) (before after : Hosts) : Type 0 where
  pub pauses : ArePaused before asked.paused
  pub tried : Hosts
  pub tries : AreTried before tried
  pub taken : Hosts
  pub takes : InOrder IsTaken asked.events tried taken
  pub offered : Offering
  pub offers : InOrder IsOffered (ids_of_clients taken.clients) (record { hosts = taken; offers = []; failed = [] }) offered
  pub told : (offered.offers ≡ asked.offers) × (offered.failed ≡ asked.failed) × (offered.hosts.to_shut ≡ asked.shut)
  pub done : after ≡ record offered.hosts { to_shut = [] }
