use Rattle.slicer_bank.proofs.Common.{◌<◌, length, arith, subst, HeldLane, HearsAlone}
use Rattle.std.proofs.Common.{slice_index_or}
use Rattle.slicer_bank.proofs.gathering.hear_on_threads.Goals as goal

pub returns-clause-heard : goal.returns-clause-heard
returns-clause-heard g c = λ offset d small.
    let within : offset < length c.args.lanes.now = (let n = c.requires.lanes in omega arith) in
    let changed = (c.for_each_mut.ensures offset d within).1 in
    let P : HeldLane → HeldLane → Type 0 = HearsAlone offset c.args.position c.args.recent.now c.args.block.now in
    subst (P (slice_index_or c.args.lanes.now offset d)) changed.left
    (subst (λ was. P was changed.after_call.now) changed.argument_is changed.call.0)
