use Rattle.hf_modem.proofs.MergedLemmas.{is_hearing}
use Rattle.hf_modem.proofs.decoder.HfBankLanes.laws.Goals as goal

pub returns : goal.returns
returns c = is_hearing
