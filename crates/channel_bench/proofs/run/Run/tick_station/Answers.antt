-- The station of the end ticks.
use Rattle.channel_bench.proofs.Common.{refl, A, B, IsTicking, AtEnd, near}
use Rattle.channel_bench.proofs.RunLemmas.{goes_on, has_ended, made_at_a, made_at_b, near_a, near_b, unless_ended}
use Rattle.channel_bench.proofs.run.Run.tick_station.Goals as goal

pub returns-then-has_ended-clause-ticked : goal.returns-then-has_ended-clause-ticked
returns-then-has_ended-clause-ticked c = λ w bench h. (
  bench,
  unless_ended (AtEnd c.args.end (IsTicking c.args.end)) bench
      (has_ended c.args.self.now w bench c.has_ended.result h c.has_ended.ensures c.if-has_ended.true),
  h,
)

pub returns-in_ok-tick-in-A-clause-ticked : goal.returns-in_ok-tick-in-A-clause-ticked
returns-in_ok-tick-in-A-clause-ticked c = λ w bench h.
    let run = c.args.self.now in
    let none = goes_on run w bench c.has_ended.result h c.has_ended.ensures c.if-has_ended.false in
    made_at_a (λ e. IsTicking e) c.args.end run _ w bench c.in-A.is h
    (record { words = refl; b = refl; text_of_a = refl; text_of_b = refl; ticks = refl; closing = refl }) none
    (c.in_ok-tick-in-A.ensures.ticked A (near A bench) (near_a run w bench h) none)

pub returns-in_ok-tick-in-B-clause-ticked : goal.returns-in_ok-tick-in-B-clause-ticked
returns-in_ok-tick-in-B-clause-ticked c = λ w bench h.
    let run = c.args.self.now in
    let none = goes_on run w bench c.has_ended.result h c.has_ended.ensures c.if-has_ended.false in
    made_at_b (λ e. IsTicking e) c.args.end run _ w bench c.in-B.is h
    (record { words = refl; a = refl; text_of_a = refl; text_of_b = refl; ticks = refl; closing = refl }) none
    (c.in_ok-tick-in-B.ensures.ticked B (near B bench) (near_b run w bench h) none)
