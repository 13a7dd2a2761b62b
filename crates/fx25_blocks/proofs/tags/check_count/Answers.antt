use Rattle.fx25_blocks.proofs.Common.{refl, check_count}
use Rattle.fx25_blocks.proofs.tags.check_count.Goals as goal

pub returns-clause-value : goal.returns-clause-value
unfolding check_count
returns-clause-value c = refl
