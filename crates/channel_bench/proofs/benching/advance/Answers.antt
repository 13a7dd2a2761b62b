-- A tick more, unless it ends the run or memory is wanted.
use Rattle.channel_bench.proofs.Common.{◌≡◌, Some, None, sym, ◌∙◌, arith}
use Rattle.channel_bench.proofs.CountLemmas.{run_counted}
use Rattle.channel_bench.proofs.BenchLemmas.{ended_by, made_more}
use Rattle.channel_bench.proofs.benching.advance.Goals as goal

pub tick-requires-clause-stands : goal.tick-requires-clause-stands
tick-requires-clause-stands c = let going = c.requires.2 in (
  c.requires.0,
  going.made.bench,
  going.made.stands,
  c.requires.3,
  run_counted c.requires.0 c.requires.1 going.made.bench going.made.ticks going.made.no_trouble,
)

pub tick-requires-clause-few : goal.tick-requires-clause-few
tick-requires-clause-few c = omega (arith, c.requires.2.made.few, c.requires.4)

pub returns-in-Some-clause-fault : goal.returns-in-Some-clause-fault
returns-in-Some-clause-fault c = λ w count going early.
    let made = c.in_ok-tick.ensures.tick w going.made.bench going.made.stands in
    let is : made.0.common.trouble ≡ Some c.in-Some.trouble = sym (c.in-Some.ensures.value ∙ made.2.shared.trouble) in
    c.fault_of.ensures w (ended_by w count c.args.run.now going made.0 c.in-Some.trouble early made.1 is)

pub returns-in-None-clause-made : goal.returns-in-None-clause-made
returns-in-None-clause-made c = λ w count going.
    let made = c.in_ok-tick.ensures.tick w going.made.bench going.made.stands in
    let h = made.2 in
    let none : made.0.common.trouble ≡ None = sym (c.in-None.ensures.value ∙ h.shared.trouble) in
    made_more w count c.args.run.now _ going made.0 made.1
    (record {
      words = h.words;
      a = h.a;
      b = h.b;
      shared = record {
        flight = h.shared.flight;
        draws = h.shared.draws;
        transmissions = h.shared.transmissions;
        lost = h.shared.lost;
        trouble = c.in-None.ensures.after ∙ sym none;
      };
      text_of_a = h.text_of_a;
      text_of_b = h.text_of_b;
      ticks = h.ticks;
      closing = h.closing;
    }) none c.in_ok-tick.ensures.count
