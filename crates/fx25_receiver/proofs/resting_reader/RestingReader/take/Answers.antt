use Rattle.fx25_receiver.proofs.Common.{arith}
use Rattle.fx25_receiver.proofs.RestingLemmas.{taken_awake, taken_resting}
use Rattle.fx25_receiver.proofs.resting_reader.RestingReader.take.Goals as goal

pub returns-then-self-gt0-clause-stands_for : goal.returns-then-self-gt0-clause-stands_for
returns-then-self-gt0-clause-stands_for c = λ b s.
    taken_awake c.args.self.now c.shifted-self.result c.push.new.self b c.args.bit c.if-self-gt0.true
    c.shifted-self.ensures c.push.ensures.stands_for s

pub returns-else-self-gt0-clause-stands_for : goal.returns-else-self-gt0-clause-stands_for
returns-else-self-gt0-clause-stands_for c = λ b s.
    let rests = c.if-self-gt0.false in
    taken_resting c.args.self.now c.shifted-self.result b c.args.bit (omega arith) c.shifted-self.ensures s
