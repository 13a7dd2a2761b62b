use Rattle.block_receiver.proofs.MergedLemmas.{all_items}
use Rattle.sensitive_receiver.specs.AllHearing.{hearing_of_all}
use Rattle.sensitive_receiver.proofs.MergedLemmas.{is_hearing}
use Rattle.sensitive_receiver.proofs.laws.sensitive_items_are_all.Goals as goal

pub returns : goal.returns
returns c = all_items hearing_of_all is_hearing
