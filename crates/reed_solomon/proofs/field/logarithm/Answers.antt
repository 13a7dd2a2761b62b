use Rattle.reed_solomon.proofs.Common.{refl, logarithm}
use Rattle.reed_solomon.proofs.field.logarithm.Goals as goal

pub returns : goal.returns
unfolding logarithm
returns c = refl
