use Rattle.wide_input.proofs.Common.{◌<◌, length, arith, subst, HeldStream, HearsBlock}
use Rattle.std.proofs.Common.{slice_index_or}
use Rattle.wide_input.proofs.streams.hear_on_threads.Goals as goal

pub returns-clause-heard : goal.returns-clause-heard
returns-clause-heard g c = λ number d small.
    let within : number < length c.args.streams.now = (let n = c.requires.streams in omega arith) in
    let changed = (c.for_each_mut.ensures number d within).1 in
    let P : HeldStream → HeldStream → Type 0 = HearsBlock c.args.block.now in
    subst (P (slice_index_or c.args.streams.now number d)) changed.left
    (subst (λ was. P was changed.after_call.now) changed.argument_is changed.call.0)
