use Rattle.std.proofs.Common.{rules}
use Rattle.selective_reject.specs.Numbers.{ahead}
use Rattle.selective_reject.proofs.number.ahead.Goals as goal

pub returns-clause-value : goal.returns-clause-value
unfolding ahead
returns-clause-value c = search rules
