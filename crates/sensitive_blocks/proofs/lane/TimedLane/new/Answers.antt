use Rattle.sensitive_blocks.proofs.Common.{refl}
use Rattle.sensitive_blocks.proofs.LaneLemmas.{read_nothing}
use Rattle.sensitive_blocks.proofs.lane.TimedLane.new.Goals as goal

pub returns : goal.returns
returns c = read_nothing _ _ c.new.ensures.stands c.new.ensures.knows refl
