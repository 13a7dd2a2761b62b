use Rattle.sensitive_receiver.proofs.Common.{arith}
use Rattle.sensitive_receiver.proofs.fixed_hearing.take_eight.Goals as goal

pub returns-clause-taken : goal.returns-clause-taken
returns-clause-taken c = λ yes.
    let few = c.if-line-at-le56.false in
    record {
      inside = omega arith;
      eight = c.eight_at.result;
      size = c.eight_at.ensures.size;
      are = c.eight_at.ensures.are;
      taken = λ tones h. c.push_eight.ensures.taken tones h yes;
      quiet = λ tones k octets h few. c.push_eight.ensures.quiet tones k octets h yes few;
    }
