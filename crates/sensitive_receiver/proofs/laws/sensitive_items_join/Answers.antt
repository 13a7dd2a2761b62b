use Rattle.block_receiver.proofs.MergedLemmas.{join}
use Rattle.sensitive_receiver.specs.AllHearing.{hearing_of_all}
use Rattle.sensitive_receiver.proofs.MergedLemmas.{is_hearing}
use Rattle.sensitive_receiver.proofs.laws.sensitive_items_join.Goals as goal

pub returns : goal.returns
returns c = join hearing_of_all is_hearing
