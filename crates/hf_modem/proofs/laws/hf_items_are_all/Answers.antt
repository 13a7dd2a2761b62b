use Rattle.block_receiver.proofs.MergedLemmas.{all_items}
use Rattle.hf_modem.specs.Hearing.{hf_hearing}
use Rattle.hf_modem.proofs.MergedLemmas.{is_hearing}
use Rattle.hf_modem.proofs.laws.hf_items_are_all.Goals as goal

pub returns : goal.returns
returns c = all_items hf_hearing is_hearing
