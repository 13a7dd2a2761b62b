use Rattle.fx25_blocks.proofs.Common.{refl, data_count}
use Rattle.fx25_blocks.proofs.tags.data_count.Goals as goal

pub returns-clause-value : goal.returns-clause-value
unfolding data_count
returns-clause-value c = refl
