-- The samples are heard, and the frame is noted.
use Rattle.channel_bench.proofs.Common.{◌++◌, refl, ap, ◌∙◌, sent_in}
use Rattle.channel_bench.proofs.SideLemmas.{stands_kept}
use Rattle.channel_bench.proofs.side.Side.take_in.Goals as goal

pub listen-requires-clause-stands : goal.listen-requires-clause-stands
listen-requires-clause-stands c = (c.requires.stands.1.blocks, c.requires.stands.1.samples, c.requires.stands.2.ear)

pub returns-clause-heard : goal.returns-clause-heard
returns-clause-heard c = λ end side h.
    let y = c.args.samples.now in
    let heard = c.in_ok-items.ensures.heard side.blocks side.samples h.ear in
    let sent = sent_in c.args.tick c.args.sender.now.air.sent in (
      stands_kept end c.args.self.now _ side h
          (record { end = refl; station = refl; there = refl; reader = refl; program = refl; air = refl })
          (side.samples ++ y) (side.towards ++ sent) side.matched side.silenced heard.0
          (c.in_ok-note_sent.ensures.noted ∙ ap (λ ts. ts ++ sent) h.towards) h.matched h.silenced,
      heard.1,
    )
