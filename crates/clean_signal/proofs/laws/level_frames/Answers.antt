use Rattle.clean_signal.proofs.Law.{level_law}
use Rattle.clean_signal.proofs.laws.level_frames.Goals as goal

pub returns : goal.returns
returns c = level_law
