use Rattle.hf_modem.proofs.Common.{arith, refl}
use Rattle.hf_modem.proofs.BusyLemmas.{busy_there, none_more, none_busy}
use Rattle.hf_modem.proofs.bank.is_some_busy.Goals as goal

pub returns-then-busy : goal.returns-then-busy
returns-then-busy c = λ flags x stand ask.
    busy_there c.args.lanes.now c.loop-lane.lane-index c.lane-item.result c.busy.result c.requires
    (let l = c.loop-lane-test.true in let n = c.requires in omega arith) c.lane-item.is
    c.busy.ensures flags x stand ask c.if-busy.true

pub loop-lane-preserved : goal.loop-lane-preserved
loop-lane-preserved c = λ flags x stand ask.
    none_more c.args.lanes.now c.loop-lane.lane-index c.lane-item.result c.busy.result c.requires
    (let l = c.loop-lane-test.true in let n = c.requires in omega arith) c.lane-item.is
    c.busy.ensures flags x stand ask c.if-busy.false (c.loop-lane.invariant flags x stand ask)

pub returns : goal.returns
returns c =
    none_busy c.args.lanes.now 32 refl
    (λ flags x stand ask k small. c.loop-lane.invariant flags x stand ask k
    (let past = c.loop-lane-test.false in let n = c.requires in omega arith))
