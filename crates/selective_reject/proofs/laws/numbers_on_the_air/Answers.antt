use Rattle.selective_reject.proofs.Distances.{ahead-at_or_ahead, ahead-following}
use Rattle.selective_reject.proofs.laws.numbers_on_the_air.Goals as goal

pub returns-clause-at_or_ahead : goal.returns-clause-at_or_ahead
returns-clause-at_or_ahead c = ahead-at_or_ahead

pub returns-clause-following : goal.returns-clause-following
returns-clause-following c = ahead-following
