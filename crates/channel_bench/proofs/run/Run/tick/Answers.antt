-- In the first tick the run begins.
use Rattle.channel_bench.proofs.Common.{◌≡◌, ◌<◌, subst, arith}
use Rattle.channel_bench.proofs.CountLemmas.{beginning_counted}
use Rattle.channel_bench.proofs.TickLemmas.{tick_first, tick_later}
use Rattle.channel_bench.proofs.run.Run.tick.Goals as goal

pub make_parts-requires-clause-stands : goal.make_parts-requires-clause-stands
make_parts-requires-clause-stands c = c.requires.stands

pub begin-requires : goal.begin-requires
begin-requires c = (c.requires.stands.0, c.requires.stands.1, c.requires.stands.2)

pub make_parts-requires-2-clause-stands : goal.make_parts-requires-2-clause-stands
make_parts-requires-2-clause-stands c =
    let need = c.requires.stands in
    let one = c.in_ok-begin.ensures.begun need.0 need.1 need.2 in
    (need.0, one.0, one.2, need.3, beginning_counted need.0 need.1 one.0 one.1 need.4)

pub returns-then-self-gt0-clause-tick : goal.returns-then-self-gt0-clause-tick
returns-then-self-gt0-clause-tick c = λ w bench h.
    let made = c.in_ok-make_parts.ensures.made w bench h in
    (made.0, tick_later w bench made.0 (subst (λ n. 0 < n) h.ticks c.if-self-gt0.true) made.1, made.2)

pub returns-clause-tick : goal.returns-clause-tick
returns-clause-tick c = λ w bench h.
    let none : bench.ticks ≡ 0 = omega (arith, h.ticks, c.if-self-gt0.false) in
    let one = c.in_ok-begin.ensures.begun w bench h in
    let two = c.in_ok-make_parts-2.ensures.made w one.0 one.2 in
    (two.0, tick_first w bench one.0 two.0 none one.1 two.1, two.2)
