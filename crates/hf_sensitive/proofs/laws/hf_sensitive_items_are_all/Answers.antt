use Rattle.block_receiver.proofs.MergedLemmas.{all_items}
use Rattle.hf_sensitive.specs.Hearing.{all_hf_hearing}
use Rattle.hf_sensitive.proofs.MergedLemmas.{is_hearing}
use Rattle.hf_sensitive.proofs.laws.hf_sensitive_items_are_all.Goals as goal

pub returns : goal.returns
returns c = all_items all_hf_hearing is_hearing
