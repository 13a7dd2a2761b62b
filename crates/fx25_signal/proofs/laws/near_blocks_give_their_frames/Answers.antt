use Rattle.fx25_signal.proofs.NearLaw.{near_law}
use Rattle.fx25_signal.proofs.laws.near_blocks_give_their_frames.Goals as goal

pub returns : goal.returns
returns c = near_law
