use Rattle.tnc_decode.proofs.Common.{arith}
use Rattle.tnc_decode.proofs.AudioLemmas.{pairs_on_eight}
use Rattle.tnc_decode.proofs.audio.take_pairs.Goals as goal

pub loop-rest-preserved-in-Some : goal.loop-rest-preserved-in-Some
loop-rest-preserved-in-Some c =
    let cases = c.in-Some.ensures.cases in
    pairs_on_eight c.args.octets.now c.loop-rest.rest.now c.in-Some.front.now c.in-Some.later.now
    c.args.samples.now.items c.loop-rest.samples.items c.append_eight.new.samples.items c.loop-rest.invariant
    (let l = cases.2 in omega arith) cases.0 cases.1 c.in_ok-append_eight.ensures.appended c.in_ok-append_eight.ensures.count
