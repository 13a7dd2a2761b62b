use Rattle.fx25_receiver.proofs.Common.{◌≡◌, ◌-◌, ℤ, List, length, take, drop, arith, take_all}
use Rattle.std.proofs.Common.{length-drop}
use Rattle.std.proofs.lemmas.Result.{on_ok_weaker}
use Rattle.fx25_receiver.proofs.BlockLemmas.{slid_all, slid_more, slid_none, slid_position}
use Rattle.fx25_receiver.proofs.receiver.Fx25Receiver.run.Goals as goal

pub loop-stretch-init : goal.loop-stretch-init
loop-stretch-init c = slid_none c.args.self.now c.args.piece.now c.args.given.now.items c.requires.seven

pub loop-stretch-preserved : goal.loop-stretch-preserved
loop-stretch-preserved c =
    let cases = c.in-Some.ensures.cases in
    let rest : List ℤ = c.loop-stretch.rest.now in
    let left : List ℤ = take (length rest - 64) (drop 64 rest) in
    let left_is : left ≡ drop 64 rest = take_all (length rest - 64) (drop 64 rest) (omega (arith, length-drop 64 rest)) in
    slid_more c.args.self.now c.loop-stretch.self c.stride.new.self c.args.piece.now rest
    c.in-Some.stretch.now left c.args.given.now.items c.loop-stretch.given.items c.stride.new.given.items
    c.loop-stretch.invariant (let l = cases.2 in omega arith) cases.0 left_is c.in_ok-stride.ensures.taken
    c.in_ok-stride.ensures.position c.stride.ensures.recent c.stride.ensures.spent

pub returns-clause-taken : goal.returns-clause-taken
returns-clause-taken c =
    on_ok_weaker c.slide.result (slid_all c.args.self.now c.loop-stretch.self c.slide.new.self c.args.piece.now
    c.loop-stretch.rest.now c.args.given.now.items c.loop-stretch.given.items c.slide.new.given.items
    c.loop-stretch.invariant)
    c.slide.ensures.taken

pub returns-clause-position : goal.returns-clause-position
returns-clause-position c =
    on_ok_weaker c.slide.result (slid_position c.args.self.now c.loop-stretch.self c.slide.new.self c.args.piece.now
    c.loop-stretch.rest.now c.args.given.now.items c.loop-stretch.given.items c.loop-stretch.invariant)
    c.slide.ensures.position
