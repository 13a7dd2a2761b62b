use Rattle.std.proofs.Common.{◌≡◌, length, rules, arith}
use Rattle.tone_carrier.proofs.CarrierLemmas.{none_busy}
use Rattle.tone_carrier.proofs.carrier.is_some_busy.Goals as goal

pub returns : goal.returns
returns c = λ windows stand.
    none_busy windows (λ k small. c.loop-lane.invariant windows stand k
    (let past = c.loop-lane-test.false in
    let four : length c.args.lanes.now ≡ 4 = search rules in
    omega arith))
