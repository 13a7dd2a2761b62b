use Rattle.tnc_loop.proofs.SendingLemmas.{HasSentSome}
use Rattle.tnc_loop.proofs.sending.send_drawn.Given as goal

abbrev pub invariant-loop : goal.invariant-loop
invariant-loop l = HasSentSome l.fn.words l.counter l.generator l.sent
