-- The host program at the end gives the next piece.
use Rattle.channel_bench.proofs.Common.{refl, ◌∙◌, A, B, IsGiven, AtEnd, near}
use Rattle.channel_bench.proofs.RunLemmas.{goes_on, has_ended, made_at_a, made_at_b, near_a, near_b, unless_ended}
use Rattle.channel_bench.proofs.run.Run.give.Goals as goal

pub give-requires : goal.give-requires
give-requires c = (A, near A c.requires.1, near_a c.args.self.now c.requires.0 c.requires.1 c.requires.2)

pub give-requires-in-B : goal.give-requires-in-B
give-requires-in-B c = (B, near B c.requires.1, near_b c.args.self.now c.requires.0 c.requires.1 c.requires.2)

pub returns-then-has_ended-clause-given : goal.returns-then-has_ended-clause-given
returns-then-has_ended-clause-given c = λ w bench h. (
  bench,
  unless_ended (AtEnd c.args.end (IsGiven w c.args.end)) bench
      (has_ended c.args.self.now w bench c.has_ended.result h c.has_ended.ensures c.if-has_ended.true),
  h,
)

pub returns-in_ok-give-in-A-clause-given : goal.returns-in_ok-give-in-A-clause-given
returns-in_ok-give-in-A-clause-given c = λ w bench h.
    let run = c.args.self.now in
    let none = goes_on run w bench c.has_ended.result h c.has_ended.ensures c.if-has_ended.false in
    made_at_a (λ e. IsGiven w e) c.args.end run _ w bench c.in-A.is h
    (record { words = refl; b = refl; text_of_a = refl; text_of_b = refl; ticks = refl; closing = refl }) none
    (c.in_ok-give-in-A.ensures.given A w (c.as_slice.ensures.list ∙ h.text_of_a) (near A bench)
    (near_a run w bench h) none)

pub returns-in_ok-give-in-B-clause-given : goal.returns-in_ok-give-in-B-clause-given
returns-in_ok-give-in-B-clause-given c = λ w bench h.
    let run = c.args.self.now in
    let none = goes_on run w bench c.has_ended.result h c.has_ended.ensures c.if-has_ended.false in
    made_at_b (λ e. IsGiven w e) c.args.end run _ w bench c.in-B.is h
    (record { words = refl; a = refl; text_of_a = refl; text_of_b = refl; ticks = refl; closing = refl }) none
    (c.in_ok-give-in-B.ensures.given B w (c.as_slice-in-B.ensures.list ∙ h.text_of_b) (near B bench)
    (near_b run w bench h) none)
