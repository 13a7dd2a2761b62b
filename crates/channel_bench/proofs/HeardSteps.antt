-- A step of a station of the bench that hears a frame, from what its calls gave.
use Rattle.channel_bench.proofs.Common.{◌≡◌, ℕ, ◌+◌, ◌<◌, Bool, List, Some, None, sym, ap, ◌∙◌, subst, All, End}
use Rattle.channel_bench.proofs.Common.{IsHeard, ids_of, StationState, Out, begin, Shared, Side, SideState, Near}
use Rattle.channel_bench.proofs.Common.{ways_of, IsStep, first_unquiet, told_pieces, trouble_of, with_matched}
use Rattle.channel_bench.proofs.Common.{EarStandsFor, StandsForSide, StandsForNear, StandsForWays, BothWays, hearing_at}
use Rattle.channel_bench.proofs.Common.{is_ask, queueing_all, OffAir}
use Rattle.agwpe_port.specs.Held.{StandsFor as AgwStandsFor}
use Rattle.station.specs.StandsFor.{StandsFor as StationStandsFor}
use Rattle.channel_bench.proofs.HostSteps.{settles}
use Rattle.channel_bench.proofs.SideLemmas.{HasSettled, heard_made}

-- all but the station and the frame that was matched last is as it was
pub record IsSameHearing (before after : Side) : Type 0 where
  pub end : after.end ≡ before.end
  pub there : after.there ≡ before.there
  pub reader : after.reader ≡ before.reader
  pub program : after.program ≡ before.program
  pub ear : after.ear ≡ before.ear
  pub towards : after.towards ≡ before.towards
  pub air : after.air ≡ before.air
  pub silenced : after.silenced ≡ before.silenced

stands_hearing : (end : End) (number : ℕ) (before after : Side) (n : Near) (next : StationState)
    → StandsForSide end before n.side
    → IsSameHearing before after → after.matched ≡ number + 1 → StationStandsFor after.station next
    → ids_of after.station ≡ ids_of before.station
    → StandsForSide end after (record (with_matched number n).side { station = next })
stands_hearing end number before after n next h same matched station ids = record {
  end_is = same.end ∙ h.end_is;
  station = station;
  ids = ids ∙ h.ids;
  there = ap (λ t. t.items) same.there ∙ h.there;
  reader = subst (λ r. AgwStandsFor r n.side.stream) (sym same.reader) h.reader;
  program = same.program ∙ h.program;
  ear = subst (λ e. EarStandsFor e n.side.blocks n.side.samples) (sym same.ear) h.ear;
  towards = ap (λ t. t.items) same.towards ∙ h.towards;
  matched = matched;
  air = same.air ∙ h.air;
  loud = h.loud;
  silenced = same.silenced ∙ h.silenced;
}

-- the channel is as it was, but for what is in flight
pub record IsSameBesidesFlight (before after : Shared) : Type 0 where
  pub draws : after.draws ≡ before.draws
  pub transmissions : after.transmissions ≡ before.transmissions
  pub lost : after.lost ≡ before.lost
  pub trouble : after.trouble ≡ before.trouble

pub heard_step : (end : End) (octets : List ℕ) (number : ℕ) (n : Near) (out : Out) (before between after : Side)
    (shared heard then : Shared) (on_ask : Bool)
    → StandsForNear end before shared n → n.common.trouble ≡ None → IsSameHearing before between
    → between.matched ≡ number + 1
    → (next : StationState) × IsHeard octets (begin n.side.station)
    (record { now = next; out = out }) × StationStandsFor between.station next
    → ids_of between.station ≡ ids_of before.station → All (λ octet. octet < 256) octets → on_ask ≡ is_ask octets
    → IsSameBesidesFlight shared heard
    → ((ways : BothWays) → StandsForWays shared.flight ways
    → StandsForWays heard.flight (hearing_at before.end (Some number) ways))
    → ((end : End) (side : SideState) → StandsForSide end between side
    → StandsForSide end after (told_pieces out.pieces side))
    → ((ways : BothWays) → StandsForWays heard.flight ways
    → StandsForWays then.flight (queueing_all between.end on_ask out.queued ways))
    → ((ways : BothWays) → StandsForWays heard.flight ways → heard.trouble ≡ None
    → then.trouble ≡ trouble_of (first_unquiet between.end on_ask out.queued ways))
    → (then.draws ≡ heard.draws) × (then.transmissions ≡ heard.transmissions) × (then.lost ≡ heard.lost)
    → (next : Near) × IsStep end (OffAir octets) (Some number)
    (with_matched number n) next × StandsForNear end after then next
heard_step end octets number n out before between after shared heard then on_ask h none same matched step ids small
    asks channel hear told flight trouble rest =
    let ways : BothWays = hearing_at end (Some number) (ways_of n.common) in
    let is_end : before.end ≡ end = h.side_is.end_is in
    let in_flight : StandsForWays heard.flight ways =
    subst (λ e. StandsForWays heard.flight (hearing_at e (Some number) (ways_of n.common))) is_end
    (hear (ways_of n.common) h.shared_is.flight) in
    let settled : HasSettled end on_ask out.queued ways heard then =
    settles end on_ask out.queued ways between.end heard then (same.end ∙ is_end) (flight ways in_flight)
    (trouble ways in_flight (channel.trouble ∙ h.shared_is.trouble ∙ none)) rest in
    let stands : StandsForSide end between (record (with_matched number n).side { station = step.0 }) =
    stands_hearing end number before between n step.0 h.side_is same matched step.2 ids in
    heard_made end octets number (with_matched number n) out after heard then (step.0, step.1) small
    (told end (record (with_matched number n).side { station = step.0 }) stands)
    (subst (λ b. HasSettled end b out.queued ways heard then) asks settled)
    (channel.draws ∙ h.shared_is.draws) (channel.transmissions ∙ h.shared_is.transmissions)
    (channel.lost ∙ h.shared_is.lost)
