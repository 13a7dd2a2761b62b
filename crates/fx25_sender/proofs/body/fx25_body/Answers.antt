use Rattle.fx25_sender.proofs.Common.{◌++◌, ap, append_assoc, arith, flat_map, flags, fx25_body, unit, ◌∙◌}
use Rattle.std.proofs.lemmas.List.{take_all}
use Rattle.fx25_sender.proofs.body.fx25_body.Goals as goal

pub returns : goal.returns
unfolding fx25_body
returns c =
    let opening = flags c.args.opening in
    let closing = flags c.args.closing in
    let units = flat_map (unit c.args.checks) in
    let frames = c.args.frames.now in
    let past = c.loop-frame-test.false in
    c.in_ok-extend_from_slice-2.ensures.items
    ∙ (λ i. c.loop-frame.invariant i ++ (c.deref-2.ensures.value ∙ c.in_ok-last.ensures) i)
    ∙ ap (λ fs. (opening ++ units fs) ++ closing) (take_all c.loop-frame.frame-index frames (omega arith))
    ∙ append_assoc opening (units frames) closing
