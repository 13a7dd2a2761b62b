use Rattle.host_ports.proofs.RealLemmas.{admits_none, admits_more}
use Rattle.host_ports.proofs.door.Door.admit.Goals as goal

pub loop-init : goal.loop-init
loop-init c = record { admits = admits_none _ _ _ }

pub loop-preserved : goal.loop-preserved
loop-preserved c = record {
  admits = admits_more c.args.self.now.kind _ _ _ _ _ _ c.loop.invariant.admits c.in_ok-join.ensures;
}
