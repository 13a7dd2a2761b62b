use Rattle.hf_sensitive.proofs.MergedLemmas.{is_hearing}
use Rattle.hf_sensitive.proofs.decoder.AllHfLanesLanes.laws.Goals as goal

pub returns : goal.returns
returns c = is_hearing
