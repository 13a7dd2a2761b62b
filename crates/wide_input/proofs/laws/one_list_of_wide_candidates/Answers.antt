use Rattle.wide_input.proofs.WideMerged.{one_wide}
use Rattle.wide_input.proofs.laws.one_list_of_wide_candidates.Goals as goal

pub returns : goal.returns
returns c = one_wide
