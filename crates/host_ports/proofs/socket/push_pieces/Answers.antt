use Rattle.host_ports.proofs.Common.{◌∙◌}
use Rattle.host_ports.proofs.socket.push_pieces.Goals as goal

pub loop-at-preserved : goal.loop-at-preserved
loop-at-preserved c = record {
  kept = λ paused may others.
      c.in_ok-push_piece.ensures.kept paused (c.loop-at.invariant.kept paused may others) others;
  joined = c.in_ok-push_piece.ensures.joined ∙ c.loop-at.invariant.joined;
}
