use Rattle.slicer_bank.proofs.MergedLemmas.{is_hearing}
use Rattle.slicer_bank.proofs.decoder.BankLanes.laws.Goals as goal

pub returns : goal.returns
returns c = is_hearing
