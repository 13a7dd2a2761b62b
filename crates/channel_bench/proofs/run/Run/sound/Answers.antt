-- The samples, the frames that are ready with them, and the end of the tick.
use Rattle.channel_bench.proofs.Common.{refl, IsPart, Sounds, hears, sounds, sounding}
use Rattle.channel_bench.proofs.PartLemmas.{parts_cons}
use Rattle.channel_bench.proofs.RunLemmas.{goes_on, has_ended, unless_made}
use Rattle.channel_bench.proofs.TickLemmas.{parts_ended}
use Rattle.channel_bench.proofs.run.Run.sound.Goals as goal

pub carry-requires-clause-stands : goal.carry-requires-clause-stands
carry-requires-clause-stands c = c.requires.stands

pub returns-then-has_ended-clause-made : goal.returns-then-has_ended-clause-made
returns-then-has_ended-clause-made c = λ w bench h. (
  bench,
  parts_ended w sounds bench (has_ended c.args.self.now w bench c.has_ended.result h c.has_ended.ensures
      c.if-has_ended.true),
  h,
)

pub returns-clause-made : goal.returns-clause-made
returns-clause-made c = λ w bench h.
    let none = goes_on c.args.self.now w bench c.has_ended.result h c.has_ended.ensures c.if-has_ended.false in
    let ready = c.in_ok-ready.ensures.ready w bench h in
    let made = c.in_ok-hear_both.ensures.heard w (sounding w bench)
    (c.in_ok-ready.ensures.carried w bench h) ready.0 ready.1 in (
      made.0,
      parts_cons w Sounds hears bench (sounding w bench) made.0
          (unless_made (IsPart w Sounds) bench (sounding w bench) none refl) made.1,
      made.2,
    )
