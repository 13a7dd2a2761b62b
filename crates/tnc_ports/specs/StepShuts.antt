-- Which of the connections that are there a step of the station shuts, and what waits for the others.
use Rattle.std.specs.Prelude.{◌≡◌, ℕ, ◌+◌, ◌<◌, ◌≤◌, ◌⊎◌, ◌↔◌, true, false, IsTrue, List, [], ◌++◌, length, Option}
use Rattle.std.specs.Prelude.{Some, None}
use Rattle.station.specs.Turn.{Out}
use Rattle.host_ports.specs.declared.client.Client.{Client}
use Rattle.host_ports.specs.Hosts.{Hosts, client_of, is_among, is_there, delivering}
use Rattle.host_ports.specs.SentSoFar.{octets_for}
use Rattle.host_ports.specs.Waiting.{most_octets, octets_of}

-- the octets that wait for a connection
abbrev pub octets_waiting : Option Client → List ℕ
octets_waiting None = []
octets_waiting (Some client) = octets_of client.waiting

-- the same by its id
abbrev pub octets_waiting_for : ℕ → Hosts → List ℕ
octets_waiting_for id hosts = octets_waiting (client_of id hosts.clients)

-- The step closes the connection, or all that it says to it is more than may wait, with what waits already.
abbrev pub IsShutBy : ℕ → Out → Hosts → Type 0
IsShutBy id out hosts =
    IsTrue (is_among id out.closed)
    ⊎ (most_octets < length (octets_waiting_for id hosts) + length (octets_for id out.pieces))

-- A step shuts a connection that is there exactly so. Else all that it says to it waits for it, in order, after what
-- waited before.
pub record HearsStep (id : ℕ) (out : Out) (hosts : Hosts) : Type 0 where
  pub shut : (is_there id (delivering out hosts) ≡ false) ↔ IsShutBy id out hosts
  pub waits : ¬ IsShutBy id out hosts
      → octets_waiting_for id (delivering out hosts) ≡ octets_waiting_for id hosts ++ octets_for id out.pieces

-- each step is heard so by each connection that is there, if no more waits for it than may
abbrev pub StepsAreHeard : Type 0
StepsAreHeard =
    (id : ℕ) (out : Out) (hosts : Hosts) → is_there id hosts ≡ true → length (octets_waiting_for id hosts) ≤ most_octets
    → HearsStep id out hosts
