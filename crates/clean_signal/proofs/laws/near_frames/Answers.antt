use Rattle.clean_signal.proofs.Law.{near_law}
use Rattle.clean_signal.proofs.laws.near_frames.Goals as goal

pub returns : goal.returns
returns c = near_law
