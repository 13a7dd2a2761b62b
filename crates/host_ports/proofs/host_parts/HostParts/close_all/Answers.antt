use Rattle.host_ports.proofs.Common.{subst, arith, Moves, closing_all}
use Rattle.host_ports.proofs.DeliverLemmas.{close_more, gone_more}
use Rattle.host_ports.proofs.ClientLemmas.{take_end}
use Rattle.host_ports.proofs.MoveLemmas.{narrows_then}
use Rattle.host_ports.proofs.host_parts.HostParts.close_all.Goals as goal

pub loop-id-preserved : goal.loop-id-preserved
loop-id-preserved c = record {
  moves = close_more c.args.closed.now c.loop-id.id-index c.args.self.now c.loop-id.self c.close_one.new.self
      c.loop-id-test.true c.loop-id.invariant.moves c.in_ok-close_one.ensures.moves;
  narrows = narrows_then c.args.self.now c.loop-id.self c.close_one.new.self c.loop-id.invariant.narrows
      c.in_ok-close_one.ensures.narrows;
  gone = gone_more c.args.closed.now c.loop-id.id-index c.loop-id.self c.close_one.new.self c.loop-id-test.true
      c.loop-id.invariant.gone c.in_ok-close_one.ensures.narrows c.in_ok-close_one.ensures.gone;
}

pub returns-clause-moves : goal.returns-clause-moves
returns-clause-moves c =
    let end = c.loop-id-test.false in
    subst (λ ids. Moves (closing_all ids) c.args.self.now c.loop-id.self)
    (take_end c.args.closed.now c.loop-id.id-index (omega arith)) c.loop-id.invariant.moves
