use Rattle.slicer_bank.proofs.Common.{◌+◌, ◌*◌, ◌-◌, ◌/◌, refl, length, drop, arith, ◌∙◌, length-drop, take_all}
use Rattle.slicer_bank.proofs.OwnLemmas.{own_none, own_more, own_eight, own_all, drop_most}
use Rattle.slicer_bank.proofs.job.hear_own.Goals as goal

pub loop-window-init : goal.loop-window-init
loop-window-init c =
    let offset = c.from.ensures in
    let again = c.from-2.ensures in
    let taken = c.saturating_sub-taken.ensures in
    let n = c.min-before.ensures in
    own_none c.args.offset c.args.position (c.from-2.result + 8 * (c.saturating_sub-taken.result / 8 + 1))
    c.args.piece.now _ c.args.lane.now c.args.found.now.items
    (omega arith)
    (take_all (length c.args.piece.now - c.min-before.result) (drop c.min-before.result c.args.piece.now)
    (omega (arith, length-drop c.min-before.result c.args.piece.now))
    ∙ drop_most c.min-before.result (c.from-2.result + 8 * (c.saturating_sub-taken.result / 8 + 1) - 1
    - c.args.position) c.args.piece.now (omega arith))

pub loop-window-preserved-in-Some-split_first_chunk : goal.loop-window-preserved-in-Some-split_first_chunk
loop-window-preserved-in-Some-split_first_chunk c =
    let some = c.in-Some-split_first_chunk in
    let cases = some.ensures.cases in
    own_eight c.args.offset c.args.position c.loop-window.end (c.loop-window.end + 64)
    c.args.piece.now c.loop-window.rest.now some.windows.now some.later.now
    c.args.lane.now c.loop-window.lane c.hear_eight.new.lane c.args.found.now.items c.loop-window.found.items
    c.hear_eight.new.found.items
    c.requires.lane c.requires.seven refl (let l = cases.2 in omega arith) cases.0 cases.1 c.loop-window.invariant
    c.in_ok-hear_eight.ensures.bounds c.in_ok-hear_eight.ensures.asks c.in_ok-hear_eight.ensures.heard

pub loop-window-preserved : goal.loop-window-preserved
loop-window-preserved c =
    let cases = c.in-Some.ensures.cases in
    own_more c.args.offset c.args.position c.loop-window.end (c.loop-window.end + 8)
    c.args.piece.now c.loop-window.rest.now c.in-Some.window.now c.in-Some.after.now
    c.args.lane.now c.loop-window.lane c.hear.new.lane c.args.found.now.items c.loop-window.found.items
    c.hear.new.found.items
    c.requires.lane c.requires.seven refl (let l = cases.2 in omega arith) cases.0 cases.1 c.loop-window.invariant
    c.in_ok-hear.ensures.bounds c.in_ok-hear.ensures.asks c.in_ok-hear.ensures.stands_for c.in_ok-hear.ensures.found

pub returns-clause-found : goal.returns-clause-found
returns-clause-found c =
    own_all c.args.offset c.args.position c.loop-window.end c.args.piece.now c.loop-window.rest.now c.args.lane.now
    c.loop-window.lane c.args.found.now.items c.loop-window.found.items
    c.requires.seven c.in_default.ensures.cases c.loop-window.invariant
