-- The station of the end hears the frames.
use Rattle.channel_bench.proofs.Common.{refl, A, B, near, AreHeardAt}
use Rattle.channel_bench.proofs.RunLemmas.{moves_at_a, moves_at_b, near_a, near_b}
use Rattle.channel_bench.proofs.run.Run.hear.Goals as goal

pub returns-in_ok-hear_all-in-A-clause-heard : goal.returns-in_ok-hear_all-in-A-clause-heard
returns-in_ok-hear_all-in-A-clause-heard c = λ w bench h.
    moves_at_a (λ e. AreHeardAt e c.args.items.now) c.args.end c.args.self.now _ w bench c.in-A.is h
    (record { words = refl; b = refl; text_of_a = refl; text_of_b = refl; ticks = refl; closing = refl })
    (c.in_ok-hear_all-in-A.ensures.heard A (near A bench) (near_a c.args.self.now w bench h))

pub returns-in_ok-hear_all-in-B-clause-heard : goal.returns-in_ok-hear_all-in-B-clause-heard
returns-in_ok-hear_all-in-B-clause-heard c = λ w bench h.
    moves_at_b (λ e. AreHeardAt e c.args.items.now) c.args.end c.args.self.now _ w bench c.in-B.is h
    (record { words = refl; a = refl; text_of_a = refl; text_of_b = refl; ticks = refl; closing = refl })
    (c.in_ok-hear_all-in-B.ensures.heard B (near B bench) (near_b c.args.self.now w bench h))
