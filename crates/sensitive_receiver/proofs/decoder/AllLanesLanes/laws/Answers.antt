use Rattle.sensitive_receiver.proofs.MergedLemmas.{is_hearing}
use Rattle.sensitive_receiver.proofs.decoder.AllLanesLanes.laws.Goals as goal

pub returns : goal.returns
returns c = is_hearing
