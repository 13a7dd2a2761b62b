use Rattle.tone_tracking.proofs.Common.{◌<◌, length, arith, subst}
use Rattle.std.proofs.Common.{slice_index_or}
use Rattle.tone_tracking.specs.Slots.{Decides, HeldSlot}
use Rattle.tone_tracking.proofs.deciding.OnThreadsDeciding.decide.Goals as goal

pub returns-clause-decided : goal.returns-clause-decided
returns-clause-decided g c = λ slot d below.
    let within : slot < length c.args.slots.now = (let n = c.requires.slots in omega arith) in
    let changed = (c.for_each_mut.ensures slot d within).1 in
    let P : HeldSlot → HeldSlot → Type 0 = Decides c.args.levels.now in
    subst (P (slice_index_or c.args.slots.now slot d)) changed.left
    (subst (λ was. P was changed.after_call.now) changed.argument_is changed.call)
