use Rattle.host_ports.proofs.Common.{sym, ◌∙◌}
use Rattle.host_ports.proofs.NamedLemmas.{not_among}
use Rattle.host_ports.proofs.sockets.take_unpaused.Goals as goal

pub returns-in_ok-take_piece-clause-kept : goal.returns-in_ok-take_piece-clause-kept
returns-in_ok-take_piece-clause-kept c = λ may.
    let isnt = c.if-not-is_among.true in
    let among = c.is_among.ensures in
    c.in_ok-take_piece.ensures.kept c.args.paused.now may
    (not_among c.args.socket.now.id c.args.paused.now (sym among ∙ isnt))
