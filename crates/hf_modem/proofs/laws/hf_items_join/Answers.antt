use Rattle.block_receiver.proofs.MergedLemmas.{join}
use Rattle.hf_modem.specs.Hearing.{hf_hearing}
use Rattle.hf_modem.proofs.MergedLemmas.{is_hearing}
use Rattle.hf_modem.proofs.laws.hf_items_join.Goals as goal

pub returns : goal.returns
returns c = join hf_hearing is_hearing
