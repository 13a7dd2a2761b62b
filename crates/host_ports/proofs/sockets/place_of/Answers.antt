use Rattle.host_ports.proofs.Common.{sym, ◌∙◌, true≢false}
use Rattle.host_ports.proofs.RealLemmas.{is_open}
use Rattle.host_ports.proofs.sockets.place_of.Goals as goal

pub returns-then-socket-id-clause-open : goal.returns-then-socket-id-clause-open
returns-then-socket-id-clause-open c = λ closed.
    absurd (true≢false (sym (is_open c.args.id c.loop-at.at c.args.sockets.now _ c.loop-at-test.true
    c.if-socket-id.true) ∙ closed))
