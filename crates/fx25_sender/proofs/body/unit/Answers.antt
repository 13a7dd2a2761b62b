use Rattle.fx25_sender.proofs.Common.{unit}
use Rattle.fx25_sender.proofs.UnitLemmas.{one_unit, unit_is}
use Rattle.fx25_sender.proofs.body.unit.Goals as goal

pub returns : goal.returns
returns c =
    let checks = c.args.checks in
    let frame = c.args.frame.now in
    one_unit checks frame c.in_ok-bits.bits.items (unit checks frame) c.in_ok-bits.ensures (unit_is checks frame)
