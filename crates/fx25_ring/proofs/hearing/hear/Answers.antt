use Rattle.fx25_ring.proofs.Common.{ring_len}
use Rattle.fx25_ring.proofs.OneReader.{none_made}
use Rattle.fx25_ring.proofs.ReceiverLemmas.{makes}
use Rattle.fx25_ring.proofs.hearing.hear.Goals as goal

pub returns-clause-made : goal.returns-clause-made
returns-clause-made c =
    let told = c.in_ok-turn.ensures in
    let end = c.in_ok-end_stretch.ensures in
    makes (ring_len c.args.ring.now) c.args.reader.now c.read_on.new.reader c.args.lanes.now c.read_on.new.lanes
    c.end_stretch.new.lanes c.in_ok-turn.turn _ told.made
    (record { at = told.place; room = told.room; together = told.step }) c.read_on.ensures.sensitive
    end.stays end.ends end.listens c.at.ensures c.at.type_inv end.ended end.gaps

pub returns-in_err-turn-clause-made : goal.returns-in_err-turn-clause-made
returns-in_err-turn-clause-made c = none_made _ c.from_residual.result _ c.from_residual.ensures.1

pub returns-in_err-end_stretch-clause-made : goal.returns-in_err-end_stretch-clause-made
returns-in_err-end_stretch-clause-made c =
    none_made _ c.from_residual-in_err-end_stretch.result _ c.from_residual-in_err-end_stretch.ensures.1
