use Rattle.fx25_receiver.proofs.MergedLists.{merged_more, one_merged, some_merged}
use Rattle.fx25_receiver.proofs.laws.merged_items_are_one.Goals as goal

pub returns : goal.returns
returns c = record { some = some_merged; one = one_merged; more = merged_more }
