-- A transmission that begins is lost, or not, and counted.
use Rattle.channel_bench.proofs.Common.{refl, sym, ap, ◌∙◌, subst, StandsForNear}
use Rattle.channel_bench.proofs.LossLemmas.{loss_none, loss_drawn}
use Rattle.channel_bench.proofs.side.Side.draw_loss.Goals as goal

pub returns-then-not-self-clause-drawn : goal.returns-then-not-self-clause-drawn
returns-then-not-self-clause-drawn c = λ end n h.
    subst (λ m. StandsForNear end c.args.self.now c.args.shared.now m)
    (sym (loss_none c.args.loss n (ap (λ a. a.began) (sym h.side_is.air) ∙ c.if-not-self.true))) h

pub returns-clause-drawn : goal.returns-clause-drawn
returns-clause-drawn c = λ end n h.
    loss_drawn end c.args.loss n c.args.self.now _ c.args.shared.now _ c.draw_loss-self.result h (c.if-not-self.false)
    (record { end = refl; station = refl; there = refl; reader = refl; program = refl; air = refl })
    refl refl refl refl c.draw_loss-self.ensures.lost c.draw_loss-self.ensures.counted
