-- A's samples are heard before B's, with what the other one sends.
use Rattle.channel_bench.proofs.Common.{◌++◌, refl, subst, A, B, AreReady, StandsForSide, sent_in, with_samples}
use Rattle.channel_bench.proofs.TakeLemmas.{both_taken}
use Rattle.channel_bench.proofs.run.Run.take_in.Goals as goal

pub take_in-requires-clause-stands : goal.take_in-requires-clause-stands
take_in-requires-clause-stands c = (A, c.requires.stands.1.a, c.requires.stands.2.a)

pub take_in-requires-2-clause-stands : goal.take_in-requires-2-clause-stands
take_in-requires-2-clause-stands c = (B, c.requires.stands.1.b, c.requires.stands.2.b)

pub returns-clause-taken : goal.returns-clause-taken
returns-clause-taken c = λ w bench h.
    let run = c.args.self.now in
    let at_a = c.in_ok-at_a.ensures.heard A bench.a h.a in
    let at_b = c.in_ok-at_b.ensures.heard B bench.b h.b in
    let a = subst (λ y. StandsForSide A c.take_in.new.self
    (with_samples y (sent_in run.ticks run.b.air.sent) bench.a)) c.deref.ensures.value at_a.0 in
    let b = subst (λ y. StandsForSide B c.take_in-2.new.self
    (with_samples y (sent_in run.ticks c.take_in.new.self.air.sent) bench.b))
    c.deref-2.ensures.value at_b.0 in
    both_taken run _ w bench c.args.both.now.to_a.items c.args.both.now.to_b.items h a b
    (record { words = refl; shared = refl; text_of_a = refl; text_of_b = refl; ticks = refl; closing = refl })

pub returns-clause-ready : goal.returns-clause-ready
returns-clause-ready c = λ w bench h.
    let at_a = c.in_ok-at_a.ensures.heard A bench.a h.a in
    let at_b = c.in_ok-at_b.ensures.heard B bench.b h.b in (
      subst (λ y. AreReady bench.a.blocks (bench.a.samples ++ y) c.in_ok-at_a.at_a.items) c.deref.ensures.value at_a.1,
      subst (λ y. AreReady bench.b.blocks (bench.b.samples ++ y) c.in_ok-at_b.at_b.items) c.deref-2.ensures.value at_b.1,
    )
