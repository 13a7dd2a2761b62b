use Rattle.clean_signal.proofs.Law.{carried_law}
use Rattle.clean_signal.proofs.laws.carried_frames.Goals as goal

pub returns : goal.returns
returns c = carried_law
