use Rattle.tnc_loop.proofs.Common.{noise_of}
use Rattle.tnc_loop.proofs.DrawingLemmas.{HasDrawn}
use Rattle.tnc_loop.proofs.rough.draw_noise.Given as goal

abbrev pub invariant-loop : goal.invariant-loop
invariant-loop l = HasDrawn noise_of l.fn.generator l.generator l.fn.count l.counter l.samples.items
