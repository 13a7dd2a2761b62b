-- A's transmission draws before B's.
use Rattle.channel_bench.proofs.Common.{refl, A, B, near, with_near, with_loss}
use Rattle.channel_bench.proofs.LossLemmas.{both_lost}
use Rattle.channel_bench.proofs.RunLemmas.{near_a}
use Rattle.channel_bench.proofs.run.Run.draw_losses.Goals as goal

pub returns-clause-lost : goal.returns-clause-lost
returns-clause-lost c = λ w bench h.
    let run = c.args.self.now in
    let first = c.draw_loss.ensures.drawn A (near A bench) (near_a run w bench h) in
    let between = with_near A (with_loss run.words.loss (near A bench)) bench in
    let second = c.draw_loss-2.ensures.drawn B (near B between)
    (record { side_is = h.b; shared_is = first.shared_is }) in
    both_lost run _ w bench h first.side_is second refl h.text_of_a h.text_of_b h.ticks h.closing
