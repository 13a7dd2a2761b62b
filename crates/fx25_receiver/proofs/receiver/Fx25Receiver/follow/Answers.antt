use Rattle.fx25_receiver.proofs.Common.{◌≡◌, ◌-◌, ℤ, List, length, take, drop, arith, take_all}
use Rattle.std.proofs.Common.{length-drop}
use Rattle.fx25_receiver.proofs.BlockLemmas.{followed_all, followed_more, followed_none, followed_position}
use Rattle.fx25_receiver.proofs.receiver.Fx25Receiver.follow.Goals as goal

pub loop-window-init : goal.loop-window-init
loop-window-init c =
    followed_none c.args.self.now c.args.waiting.now c.args.piece.now c.args.given.now.items c.requires.seven

pub loop-window-preserved : goal.loop-window-preserved
loop-window-preserved c =
    let cases = c.in-Some.ensures.cases in
    let rest : List ℤ = c.loop-window.rest.now in
    let left : List ℤ = take (length rest - 1) (drop 1 rest) in
    let left_is : left ≡ drop 1 rest = take_all (length rest - 1) (drop 1 rest) (omega (arith, length-drop 1 rest)) in
    followed_more c.args.self.now c.loop-window.self c.step.new.self c.args.waiting.now c.args.piece.now rest
    c.in-Some.window.now left c.args.given.now.items c.loop-window.given.items c.step.new.given.items
    c.loop-window.invariant (let l = cases.2 in omega arith) cases.0 left_is c.in_ok-step.ensures.taken
    c.in_ok-step.ensures.position c.step.ensures.recent c.step.ensures.spent

pub returns-clause-taken : goal.returns-clause-taken
returns-clause-taken c =
    followed_all c.args.self.now c.loop-window.self c.args.waiting.now c.args.piece.now c.loop-window.rest.now
    c.args.given.now.items c.loop-window.given.items c.loop-window.invariant c.in_default.ensures.cases

pub returns-clause-position : goal.returns-clause-position
returns-clause-position c =
    followed_position c.args.self.now c.loop-window.self c.args.waiting.now c.args.piece.now c.loop-window.rest.now
    c.args.given.now.items c.loop-window.given.items c.loop-window.invariant c.in_default.ensures.cases
