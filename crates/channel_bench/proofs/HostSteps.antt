-- A step of a station of the bench with an event of a host, or a tick, from what its calls gave.
use Rattle.channel_bench.proofs.Common.{◌≡◌, ℕ, Bool, false, List, None, ap, ◌∙◌, subst, End, HostEvent, ids_of}
use Rattle.channel_bench.proofs.Common.{ids_after, IsHostTurn, StationState, Out, Turn, begin, Shared, Side, SideState}
use Rattle.channel_bench.proofs.Common.{Near, ways_of, IsStep, first_unquiet, told_pieces, trouble_of, StandsForSide}
use Rattle.channel_bench.proofs.Common.{StandsForNear, StandsForWays, BothWays, queueing_all, FromHost, OfClock}
use Rattle.station.specs.StandsFor.{StandsFor as StationStandsFor}
use Rattle.station.specs.Ticks.{IsTick}
use Rattle.channel_bench.proofs.SideLemmas.{HasSettled, IsSameBesides, host_made, stands_with, tick_made}

-- what a station's frames come to, from the clauses of the call that tells of them
pub settles : (end : End) (on_ask : Bool) (frames : List (List ℕ)) (ways : BothWays) (sender : End)
    (before after : Shared) → sender ≡ end
    → StandsForWays after.flight (queueing_all sender on_ask frames ways)
    → after.trouble ≡ trouble_of (first_unquiet sender on_ask frames ways)
    → (after.draws ≡ before.draws) × (after.transmissions ≡ before.transmissions) × (after.lost ≡ before.lost)
    → HasSettled end on_ask frames ways before after
settles end on_ask frames ways sender before after is flight trouble rest =
    subst (λ e. HasSettled e on_ask frames ways before after) is
    (record { flight = flight; trouble = trouble; draws = rest.0; transmissions = rest.1; lost = rest.2 })

pub host_step : (end : End) (event : HostEvent) (n : Near) (out : Out) (before between after : Side)
    (shared then : Shared)
    → StandsForNear end before shared n → n.common.trouble ≡ None → IsSameBesides before between
    → (next : StationState) × IsHostTurn event (begin n.side.station)
    (record { now = next; out = out }) × StationStandsFor between.station next
    → ids_of between.station ≡ ids_after event out.closed (ids_of before.station)
    → between.there.items ≡ ids_after event out.closed n.side.there
    → ((end : End) (side : SideState) → StandsForSide end between side
    → StandsForSide end after (told_pieces out.pieces side))
    → ((ways : BothWays) → StandsForWays shared.flight ways
    → StandsForWays then.flight (queueing_all between.end false out.queued ways))
    → ((ways : BothWays) → StandsForWays shared.flight ways → shared.trouble ≡ None
    → then.trouble ≡ trouble_of (first_unquiet between.end false out.queued ways))
    → (then.draws ≡ shared.draws) × (then.transmissions ≡ shared.transmissions) × (then.lost ≡ shared.lost)
    → (next : Near) × IsStep end (FromHost event) None n next × StandsForNear end after then next
host_step end event n out before between after shared then h none same host ids there told flight trouble rest =
    let now : List ℕ = ids_after event out.closed n.side.there in
    let stands : StandsForSide end between (record n.side { station = host.0; there = now }) =
    stands_with end before between n.side host.0 now h.side_is same host.2
    (ids ∙ ap (ids_after event out.closed) h.side_is.ids) there in
    host_made end event n out after shared then (host.0, host.1)
    (told end (record n.side { station = host.0; there = now }) stands)
    (settles end false out.queued (ways_of n.common) between.end shared then (same.end ∙ h.side_is.end_is)
    (flight (ways_of n.common) h.shared_is.flight)
    (trouble (ways_of n.common) h.shared_is.flight (h.shared_is.trouble ∙ none)) rest)
    h.shared_is

pub tick_step : (end : End) (busy : Bool) (n : Near) (out : Out) (before between after : Side) (shared then : Shared)
    → StandsForNear end before shared n → n.common.trouble ≡ None → IsSameBesides before between
    → between.there ≡ before.there
    → ids_of between.station ≡ ids_of before.station
    → (ticked : (next : StationState) × IsTick busy (begin n.side.station) (record { now = next; out = out })
    × StationStandsFor between.station next)
    → ((end : End) (side : SideState) → StandsForSide end between side
    → StandsForSide end after (told_pieces out.pieces side))
    → ((ways : BothWays) → StandsForWays shared.flight ways
    → StandsForWays then.flight (queueing_all between.end false out.queued ways))
    → ((ways : BothWays) → StandsForWays shared.flight ways → shared.trouble ≡ None
    → then.trouble ≡ trouble_of (first_unquiet between.end false out.queued ways))
    → (then.draws ≡ shared.draws) × (then.transmissions ≡ shared.transmissions) × (then.lost ≡ shared.lost)
    → (next : Near) × IsStep end (OfClock busy) None n next × StandsForNear end after then next
tick_step end busy n out before between after shared then h none same there ids ticked told flight trouble rest =
    let turn : Turn = record { now = ticked.0; out = out } in
    let now : SideState = record n.side { station = ticked.0 } in
    let stands : StandsForSide end between now =
    stands_with end before between n.side ticked.0 n.side.there h.side_is same ticked.2 (ids ∙ h.side_is.ids)
    (ap (λ t. t.items) there ∙ h.side_is.there) in
    tick_made end busy n turn after shared then ticked.1 (told end now stands)
    (settles end false out.queued (ways_of n.common) between.end shared then (same.end ∙ h.side_is.end_is)
    (flight (ways_of n.common) h.shared_is.flight)
    (trouble (ways_of n.common) h.shared_is.flight (h.shared_is.trouble ∙ none)) rest)
    h.shared_is
