use Rattle.host_ports.proofs.Common.{subst, arith, Moves, appending, appending_one}
use Rattle.host_ports.proofs.DeliverLemmas.{append_more}
use Rattle.host_ports.proofs.ClientLemmas.{take_end}
use Rattle.host_ports.proofs.MoveLemmas.{narrows_then}
use Rattle.host_ports.proofs.host_parts.HostParts.append_all.Goals as goal

pub loop-piece-preserved : goal.loop-piece-preserved
loop-piece-preserved c = record {
  moves = append_more c.args.closed.now c.args.pieces.now c.loop-piece.piece-index c.piece-item.result c.args.self.now
      c.loop-piece.self c.append_one.new.self c.loop-piece-test.true c.loop-piece.invariant.moves
      (subst (λ piece. Moves (appending_one c.args.closed.now piece) c.loop-piece.self c.append_one.new.self)
      c.piece-item.is c.in_ok-append_one.ensures.moves);
  narrows = narrows_then c.args.self.now c.loop-piece.self c.append_one.new.self c.loop-piece.invariant.narrows
      c.in_ok-append_one.ensures.narrows;
}

pub returns-clause-moves : goal.returns-clause-moves
returns-clause-moves c =
    let end = c.loop-piece-test.false in
    subst (λ pieces. Moves (appending c.args.closed.now pieces) c.args.self.now c.loop-piece.self)
    (take_end c.args.pieces.now c.loop-piece.piece-index (omega arith)) c.loop-piece.invariant.moves
