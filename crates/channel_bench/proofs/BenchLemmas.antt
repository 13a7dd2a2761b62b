-- A run of the bench, tick by tick.
use Rattle.channel_bench.proofs.Common.{◌≡◌, ℕ, ◌+◌, ◌<◌, ◌≤◌, Some, None, sym, subst, arith, Run, BenchWords, Trouble}
use Rattle.channel_bench.proofs.Common.{AreTicks, IsEndedBy, BenchState, IsTick, HasMade, IsGoing, StandsForRun}
use Rattle.std.proofs.Common.{add-one}
use Rattle.channel_bench.specs.BenchRun.{IsUnderWay}
use Rattle.channel_bench.specs.Words.{most_ticks}

ticks_more : (w : BenchWords) (count : ℕ) (before bench : BenchState) → AreTicks w count before
    → IsUnderWay before → IsTick w before bench
    → AreTicks w (count + 1) bench
ticks_more w count before bench h under tick = subst (λ n. AreTicks w n bench) (sym (add-one count))
    (before, h, under, tick)

-- a tick more, that nothing has ended
pub made_more : (w : BenchWords) (count : ℕ) (before after : Run) (going : IsGoing w count before) (next : BenchState)
    → IsTick w going.made.bench next
    → StandsForRun after w next → next.common.trouble ≡ None → after.ticks ≤ before.ticks + 1
    → HasMade w (count + 1) after
made_more w count before after going next tick stands none few =
    let was = going.made in
    record {
      bench = next;
      stands = stands;
      ticks = ticks_more w count was.bench next was.ticks
          (record { no_trouble = was.no_trouble; not_over = going.not_over }) tick;
      no_trouble = none;
      few = omega (arith, was.few, few);
    }

-- and one that something has
pub ended_by : (w : BenchWords) (count : ℕ) (run : Run) (going : IsGoing w count run) (next : BenchState)
    (trouble : Trouble) → count < most_ticks w.octets
    → IsTick w going.made.bench next → next.common.trouble ≡ Some trouble → IsEndedBy w trouble
ended_by w count run going next trouble early tick is =
    let was = going.made in
    record {
      count = count + 1;
      in_time = omega (arith, early);
      bench = next;
      ticks = ticks_more w count was.bench next was.ticks
          (record { no_trouble = was.no_trouble; not_over = going.not_over }) tick;
      is = is;
    }
