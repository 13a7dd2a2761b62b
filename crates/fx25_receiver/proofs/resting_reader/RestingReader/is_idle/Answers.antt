use Rattle.fx25_receiver.proofs.Common.{arith, drop, refl}
use Rattle.fx25_receiver.proofs.RestingLemmas.{awake_for_unsure, unsure_inside}
use Rattle.fx25_receiver.proofs.resting_reader.RestingReader.is_idle.Goals as goal

pub returns-then-self-eq0 : goal.returns-then-self-eq0
returns-then-self-eq0 c = λ b numbers s idle tag frame over ends.
    let rests = c.if-self-eq0.true in
    let awake = awake_for_unsure c.args.self.now b s numbers tag frame over ends in
    omega arith

pub returns-else-self-eq0 : goal.returns-else-self-eq0
returns-else-self-eq0 c = λ b numbers s idle tag frame over ends.
    let reads = s.reads (awake_for_unsure c.args.self.now b s numbers tag frame over ends) in
    c.is_idle.ensures.unsure (drop reads.0 b) numbers reads.1.reader_stands idle tag frame over
    (unsure_inside c.args.self.now b s numbers numbers reads.0 tag frame over reads.1 refl ends)
