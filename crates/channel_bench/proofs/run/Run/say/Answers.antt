-- The connection speaks to the station of the end.
use Rattle.channel_bench.proofs.Common.{refl, A, B, Bytes, IsTold, AtEnd, near}
use Rattle.channel_bench.proofs.RunLemmas.{goes_on, has_ended, made_at_a, made_at_b, near_a, near_b, unless_ended}
use Rattle.channel_bench.proofs.run.Run.say.Goals as goal

pub say-requires-clause-stands : goal.say-requires-clause-stands
say-requires-clause-stands c = (
  A,
  near A c.requires.stands.1,
  near_a c.args.self.now c.requires.stands.0
      c.requires.stands.1 c.requires.stands.2,
)

pub say-requires-in-B-clause-stands : goal.say-requires-in-B-clause-stands
say-requires-in-B-clause-stands c = (
  B,
  near B c.requires.stands.1,
  near_b c.args.self.now c.requires.stands.0
      c.requires.stands.1 c.requires.stands.2,
)

pub returns-then-has_ended-clause-said : goal.returns-then-has_ended-clause-said
returns-then-has_ended-clause-said c = λ w bench h. (
  bench,
  unless_ended (AtEnd c.args.end (IsTold c.args.end (Bytes c.args.id c.args.octets))) bench
      (has_ended c.args.self.now w bench c.has_ended.result h c.has_ended.ensures c.if-has_ended.true),
  h,
)

pub returns-in_ok-say-in-A-clause-said : goal.returns-in_ok-say-in-A-clause-said
returns-in_ok-say-in-A-clause-said c = λ w bench h.
    let run = c.args.self.now in
    let none = goes_on run w bench c.has_ended.result h c.has_ended.ensures c.if-has_ended.false in
    made_at_a (λ e. IsTold e (Bytes c.args.id c.args.octets)) c.args.end run _ w bench c.in-A.is h
    (record { words = refl; b = refl; text_of_a = refl; text_of_b = refl; ticks = refl; closing = refl }) none
    (c.in_ok-say-in-A.ensures.told A (near A bench) (near_a run w bench h) none)

pub returns-in_ok-say-in-B-clause-said : goal.returns-in_ok-say-in-B-clause-said
returns-in_ok-say-in-B-clause-said c = λ w bench h.
    let run = c.args.self.now in
    let none = goes_on run w bench c.has_ended.result h c.has_ended.ensures c.if-has_ended.false in
    made_at_b (λ e. IsTold e (Bytes c.args.id c.args.octets)) c.args.end run _ w bench c.in-B.is h
    (record { words = refl; a = refl; text_of_a = refl; text_of_b = refl; ticks = refl; closing = refl }) none
    (c.in_ok-say-in-B.ensures.told B (near B bench) (near_b run w bench h) none)
