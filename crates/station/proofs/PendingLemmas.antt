-- The packets that a link holds.
use Rattle.station.proofs.Common.{◌≡◌, length, Option, Some, None, refl, ap, OwnedLink, Link, StandsForPlace}
use Rattle.station.specs.AgwRequests.{packets_held}

pub held_some : (held : OwnedLink) (place : Option Link) → StandsForPlace (Some held) place
    → length held.machine.outgoing.packets ≡ packets_held place
held_some held None h = absurd h
held_some held (Some link) h = ap (λ packets. length packets) h.machine.outgoing.packets

pub held_none : (place : Option Link) → StandsForPlace None place → 0 ≡ packets_held place
held_none None h = refl
held_none (Some link) h = absurd h
