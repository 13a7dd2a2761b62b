use Rattle.tnc_loop.proofs.DrawingLemmas.{HasDrawn, octet_of}
use Rattle.tnc_loop.proofs.drawing.draw_octets.Given as goal

abbrev pub invariant-loop : goal.invariant-loop
invariant-loop l = HasDrawn octet_of l.fn.generator l.generator l.fn.count l.counter l.octets.items
