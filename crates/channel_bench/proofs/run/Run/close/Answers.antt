-- What has passed is in flight no longer, and the tick ends.
use Rattle.channel_bench.proofs.Common.{◌≡◌, refl, ticked}
use Rattle.channel_bench.proofs.PassLemmas.{closed}
use Rattle.channel_bench.proofs.RunLemmas.{goes_on, has_ended, unless_ended, unless_made}
use Rattle.channel_bench.proofs.run.Run.close.Goals as goal

pub returns-then-has_ended-clause-closed : goal.returns-then-has_ended-clause-closed
returns-then-has_ended-clause-closed c = λ w bench h. (
  bench,
  unless_ended (λ before after. after ≡ ticked before) bench
      (has_ended c.args.self.now w bench c.has_ended.result h c.has_ended.ensures c.if-has_ended.true),
  h,
)

pub returns-clause-closed : goal.returns-clause-closed
returns-clause-closed c = λ w bench h.
    let none = goes_on c.args.self.now w bench c.has_ended.result h c.has_ended.ensures c.if-has_ended.false in (
      ticked bench,
      unless_made (λ before after. after ≡ ticked before) bench (ticked bench) none refl,
      closed c.args.self.now _ w bench c.pass.new.self c.passed_below.result c.passed_below-2.result h
          (record {
            words = refl;
            a = refl;
            b = refl;
            draws = refl;
            transmissions = refl;
            lost = refl;
            trouble = refl;
            text_of_a = refl;
            text_of_b = refl;
            closing = refl;
          })
          refl c.passed_below.ensures c.passed_below-2.ensures c.pass.ensures c.pass-2.ensures,
    )
