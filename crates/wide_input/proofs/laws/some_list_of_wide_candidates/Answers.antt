use Rattle.wide_input.proofs.WideMerged.{some_wide}
use Rattle.wide_input.proofs.laws.some_list_of_wide_candidates.Goals as goal

pub returns : goal.returns
returns c = some_wide
