use Rattle.block_receiver.proofs.MergedLemmas.{join}
use Rattle.hf_sensitive.specs.Hearing.{all_hf_hearing}
use Rattle.hf_sensitive.proofs.MergedLemmas.{is_hearing}
use Rattle.hf_sensitive.proofs.laws.hf_sensitive_items_join.Goals as goal

pub returns : goal.returns
returns c = join all_hf_hearing is_hearing
