-- A step of a station of the bench, from what its call gave.
use Rattle.channel_bench.proofs.Common.{◌≡◌, ℕ, Option, refl, sym, subst, End, Turn, begin, Shared, Side, Near, ways_of}
use Rattle.channel_bench.proofs.Common.{IsStep, told_pieces, there_after, first_unquiet, trouble_of, StandsForSide}
use Rattle.channel_bench.proofs.Common.{StandsForNear, StandsForWays, hears_ask, hearing_at, queueing_all, nothing_sent}
use Rattle.channel_bench.proofs.Common.{Steps, Input, IsTurn, Step}
use Rattle.channel_bench.specs.BenchSteps.{stepped_common}
use Rattle.station_laws.specs.JointRun.{HasOctets}
use Rattle.channel_bench.proofs.FlightLemmas.{moments_more}

-- A step: the station made its turn, the program was told, and the frames joined.
module _ (end : End) (input : Input) (matched : Option ℕ) (n : Near) (turn : Turn)
    (makes : IsTurn input (begin n.side.station) turn)
    (octets : HasOctets input) (side : Side) (after : Shared)
    (stands : StandsForSide end side (told_pieces turn.out.pieces
    (record n.side { station = turn.now; there = there_after input turn.out.closed n.side.there })))
    (flight : StandsForWays after.flight
    (queueing_all end (hears_ask input) turn.out.queued (hearing_at end matched (ways_of n.common))))
    (trouble : after.trouble ≡ trouble_of
    (first_unquiet end (hears_ask input) turn.out.queued (hearing_at end matched (ways_of n.common))))
    (draws : after.draws ≡ n.common.draws) (transmissions : after.transmissions ≡ n.common.transmissions)
    (lost : after.lost ≡ n.common.lost) where
  step : Step
  step = record { station = end; input = input; before = n.side.station; after = turn; turn = makes; octets = octets }

  next : Near
  next = record {
    side = told_pieces turn.out.pieces (record n.side {
      station = turn.now;
      there = there_after input turn.out.closed
          n.side.there;
    });
    common = stepped_common step matched n.common;
  }

  pub step_made : (next : Near) × IsStep end input matched n next × StandsForNear end side after next
  unfolding next step
  step_made = (
    next,
    record { turn = turn; makes = makes; octets = octets; is = refl },
    record {
      side_is = stands;
      shared_is = record {
        flight = subst (λ ways. StandsForWays after.flight ways)
            (sym (moments_more n.common.moments (Steps step matched) nothing_sent)) flight;
        draws = draws;
        transmissions = transmissions;
        lost = lost;
        trouble = trouble;
      };
    },
  )
