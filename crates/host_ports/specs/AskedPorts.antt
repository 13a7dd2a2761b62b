-- What the sockets tell of a turn in which they were asked so.
use Rattle.std.specs.Prelude.{◌≡◌, ◌≢◌, ℕ, ◌≤◌, ◌+◌, ◌==◌, Bool, true, false, if◌then◌else◌, List, [], ◌∷◌, ◌++◌, All}
use Rattle.std.specs.Prelude.{length, map, take, Some}
use Rattle.std.specs.List.{flat_map}
use Rattle.tnc_base.specs.Faults.{HasRisen}
use Rattle.host_ports.specs.Hosts.{is_among}
use Rattle.host_ports.specs.HostTurns.{Asked, Offer}
use Rattle.host_ports.specs.Sockets.{Poll, PortsTold, Send, MayCome, has_come}

-- how long a poll waits, in milliseconds
abbrev pub poll_wait : ℕ
poll_wait = 10

abbrev pub poll_of : Asked → Poll
poll_of asked = record { wait = poll_wait; paused = asked.paused; events = asked.events }

abbrev pub send_of : ℕ → Offer → Send
send_of polls offer = record { id = offer.id; polls = polls; offered = length offer.octets; took = offer.took }

-- the octets that a connection took of these offers
abbrev pub taken_of : ℕ → List Offer → List ℕ
taken_of id offers = flat_map (λ offer. if offer.id == id then take offer.took offer.octets else []) offers

-- there was no poll and no send, and nobody was shut
pub record AreUnasked (before after : PortsTold) : Type 0 where
  pub polled : after.polls ≡ before.polls
  pub sends : after.sends ≡ before.sends
  pub sent : (id : ℕ) → after.sent id ≡ before.sent id
  pub shut : (id : ℕ) → after.is_shut id ≡ before.is_shut id
  pub later : before.faults ≤ after.faults

-- since a poll there were these sends, and these that failed
pub record AreOffered (offers : List Offer) (failing : List ℕ) (before after : PortsTold) : Type 0 where
  pub polled : after.polls ≡ before.polls
  pub sends : (polls : List Poll) (sends : List Send) → before.polls ≡ Some polls → before.sends ≡ Some sends
      → after.sends ≡ Some (sends ++ map (send_of (length polls)) offers)
  pub sent : (id : ℕ) (octets : List ℕ) → before.sent id ≡ Some octets
      → after.sent id ≡ Some (octets ++ taken_of id offers)
  pub shut : (id : ℕ) → after.is_shut id ≡ before.is_shut id
  pub later : before.faults ≤ after.faults
  pub failed : failing ≢ [] → HasRisen before.faults after.faults

-- these connections, and no others, are told to be shut, as far as they came
pub record AreShut (ids : List ℕ) (before after : PortsTold) : Type 0 where
  pub polled : after.polls ≡ before.polls
  pub sends : after.sends ≡ before.sends
  pub sent : (id : ℕ) → after.sent id ≡ before.sent id
  pub shut : (polls : List Poll) (id : ℕ) (was : Bool) → before.polls ≡ Some polls → has_come id polls ≡ true
      → before.is_shut id ≡ Some was → is_among id ids ≡ true → after.is_shut id ≡ Some true
  pub others : (id : ℕ) → is_among id ids ≡ false → after.is_shut id ≡ before.is_shut id
  pub later : before.faults ≤ after.faults

-- The sockets were asked so in a turn: one poll, and after it the sends. Exactly the connections that are shut in this
-- turn are told to be.
pub record IsAsked (asked : Asked) (before after : PortsTold) : Type 0 where
  pub may_come : All (MayCome asked.paused) asked.events
  pub polled : (polls : List Poll) → before.polls ≡ Some polls → after.polls ≡ Some (polls ++ poll_of asked ∷ [])
  pub sends : (polls : List Poll) (sends : List Send) → before.polls ≡ Some polls → before.sends ≡ Some sends
      → after.sends ≡ Some (sends ++ map (send_of (length polls + 1)) asked.offers)
  pub sent : (id : ℕ) (octets : List ℕ) → before.sent id ≡ Some octets
      → after.sent id ≡ Some (octets ++ taken_of id asked.offers)
  pub shut : (polls : List Poll) (id : ℕ) (was : Bool) → after.polls ≡ Some polls → has_come id polls ≡ true
      → before.is_shut id ≡ Some was → is_among id asked.shut ≡ true → after.is_shut id ≡ Some true
  pub others : (id : ℕ) → is_among id asked.shut ≡ false → after.is_shut id ≡ before.is_shut id
  pub failed : asked.failed ≢ [] → HasRisen before.faults after.faults
