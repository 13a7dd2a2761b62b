-- A connection joins at the station of the end.
use Rattle.channel_bench.proofs.Common.{refl, A, B, Joined, IsTold, AtEnd, near}
use Rattle.channel_bench.proofs.RunLemmas.{goes_on, has_ended, made_at_a, made_at_b, near_a, near_b, unless_ended}
use Rattle.channel_bench.proofs.run.Run.join.Goals as goal

pub join-requires : goal.join-requires
join-requires c = (A, near A c.requires.1, near_a c.args.self.now c.requires.0 c.requires.1 c.requires.2)

pub join-requires-in-B : goal.join-requires-in-B
join-requires-in-B c = (B, near B c.requires.1, near_b c.args.self.now c.requires.0 c.requires.1 c.requires.2)

pub returns-then-has_ended-clause-joined : goal.returns-then-has_ended-clause-joined
returns-then-has_ended-clause-joined c = λ w bench h. (
  bench,
  unless_ended (AtEnd c.args.end (IsTold c.args.end (Joined c.args.id c.args.kind))) bench
      (has_ended c.args.self.now w bench c.has_ended.result h c.has_ended.ensures c.if-has_ended.true),
  h,
)

pub returns-in_ok-join-in-A-clause-joined : goal.returns-in_ok-join-in-A-clause-joined
returns-in_ok-join-in-A-clause-joined c = λ w bench h.
    let run = c.args.self.now in
    let none = goes_on run w bench c.has_ended.result h c.has_ended.ensures c.if-has_ended.false in
    made_at_a (λ e. IsTold e (Joined c.args.id c.args.kind)) c.args.end run _ w bench c.in-A.is h
    (record { words = refl; b = refl; text_of_a = refl; text_of_b = refl; ticks = refl; closing = refl }) none
    (c.in_ok-join-in-A.ensures.told A (near A bench) (near_a run w bench h) none)

pub returns-in_ok-join-in-B-clause-joined : goal.returns-in_ok-join-in-B-clause-joined
returns-in_ok-join-in-B-clause-joined c = λ w bench h.
    let run = c.args.self.now in
    let none = goes_on run w bench c.has_ended.result h c.has_ended.ensures c.if-has_ended.false in
    made_at_b (λ e. IsTold e (Joined c.args.id c.args.kind)) c.args.end run _ w bench c.in-B.is h
    (record { words = refl; a = refl; text_of_a = refl; text_of_b = refl; ticks = refl; closing = refl }) none
    (c.in_ok-join-in-B.ensures.told B (near B bench) (near_b run w bench h) none)
