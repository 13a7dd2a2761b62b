-- The part of a turn that is for hosts, if memory is wanted in it and not given.
use Rattle.std.specs.Prelude.{◌≡◌, ℕ, ◌⊎◌, List, [], ◌++◌}
use Rattle.host_ports.specs.AskedPorts.{AreUnasked, IsAsked}
use Rattle.host_ports.specs.Hosts.{Hosts}
use Rattle.host_ports.specs.HostTurns.{Asked, Offering, ArePaused, AreTried, InOrder, IsTaken, IsOffered, IsHostPart}
use Rattle.host_ports.specs.HostTurns.{ids_of_clients}
use Rattle.host_ports.specs.Sockets.{PortsTold}

-- It is cut short when it takes what waits and what came: the ports were polled, and nothing is sent.
pub record IsCutInTaking (asked : Asked) (before reached : Hosts) : Type 0 where
  pub pauses : ArePaused before asked.paused
  pub nothing : (asked.offers ≡ []) × (asked.failed ≡ []) × (asked.shut ≡ [])
  pub stays : reached ≡ before

-- It is cut short when it sends: the first of the connections are each offered the rest of one piece.
pub record IsCutInSending (asked : Asked) (before reached : Hosts) : Type 0 where
  pub pauses : ArePaused before asked.paused
  pub tried : Hosts
  pub tries : AreTried before tried
  pub taken : Hosts
  pub takes : InOrder IsTaken asked.events tried taken
  pub first : List ℕ
  pub others : List ℕ
  pub parts : ids_of_clients taken.clients ≡ first ++ others
  pub offered : Offering
  pub offers : InOrder IsOffered first (record { hosts = taken; offers = []; failed = [] }) offered
  pub told : (offered.offers ≡ asked.offers) × (offered.failed ≡ asked.failed) × (asked.shut ≡ [])
  pub reaches : reached ≡ offered.hosts

-- It is cut short when it takes or when it sends; or all of it is done, and there is no memory to print its lines.
-- These are the hosts that its sends leave.
abbrev pub IsCutPart : Asked → Hosts → Hosts → Type 0
IsCutPart asked before reached = IsCutInTaking asked before reached ⊎ IsCutInSending asked before reached
    ⊎ IsHostPart asked before reached

-- The ports were asked nothing, or what a part asks that is cut short.
abbrev pub HasCutPart : Hosts → PortsTold → PortsTold → Type 0
HasCutPart before told told' =
    AreUnasked told told' ⊎ ((asked : Asked) × (reached : Hosts) × IsCutPart asked before reached
    × IsAsked asked told told')
