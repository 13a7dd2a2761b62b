-- The run goes on until it is over, or something ends it, or it has taken too long.
use Rattle.channel_bench.proofs.Common.{◌≡◌, ◌+◌, ◌<◌, ◌^◌, sym, ◌∙◌, subst, arith, AreTicks, HasMade}
use Rattle.std.proofs.lemmas.Result.{err_from_is_err_and}
use Rattle.channel_bench.specs.Words.{most_ticks}
use Rattle.channel_bench.proofs.benching.finish.Goals as goal

pub loop-init : goal.loop-init
loop-init c = c.requires.0

pub advance-requires : goal.advance-requires
advance-requires c =
    let few : c.loop.counter < 2 ^ 32
    = omega (arith, c.most_ticks-most.ensures, c.loop-test.true, c.requires.1.octets) in
    (c.args.words, c.loop.counter, c.loop.invariant, c.requires.1, few)

pub loop-preserved : goal.loop-preserved
loop-preserved c =
    let made : HasMade c.args.words (c.loop.counter + 1) c.advance.new.run = c.in_ok-advance.ensures.made c.args.words
    c.loop.counter c.loop.invariant in
    record { made = made; not_over = sym (c.is_over.ensures c.args.words made.bench made.stands) ∙ c.if-is_over.false }

pub returns-then-is_over-clause-over : goal.returns-then-is_over-clause-over
returns-then-is_over-clause-over c =
    let made : HasMade c.args.words (c.loop.counter + 1) c.advance.new.run = c.in_ok-advance.ensures.made c.args.words
    c.loop.counter c.loop.invariant in
    record {
      count = c.loop.counter + 1;
      in_time = omega (arith, c.most_ticks-most.ensures, c.loop-test.true);
      bench = made.bench;
      ticks = made.ticks;
      no_trouble = made.no_trouble;
      over = sym (c.is_over.ensures c.args.words made.bench made.stands) ∙ c.if-is_over.true;
      told = c.in_ok-report.ensures.told c.args.words made.bench made.stands;
    }

pub returns-clause-fault : goal.returns-clause-fault
returns-clause-fault c =
    let going = c.loop.invariant in
    let made = going.made in
    let all : c.loop.counter ≡ c.most_ticks-most.result = omega arith in
    record {
      most = c.most_ticks-most.ensures;
      bench = made.bench;
      made = subst (λ n. AreTicks c.args.words n made.bench) all made.ticks;
      under_way = record { no_trouble = made.no_trouble; not_over = going.not_over };
    }

pub returns-in_err-advance-clause-fault : goal.returns-in_err-advance-clause-fault
returns-in_err-advance-clause-fault c =
    let p = err_from_is_err_and c.from_residual.result c.from_residual.ensures.1 in
    let early : c.loop.counter < most_ticks c.args.words.octets = omega (arith, c.most_ticks-most.ensures, c.loop-test.true) in
    rw (p.1, p.2) (c.in_err-advance.ensures.fault c.args.words c.loop.counter c.loop.invariant early)
