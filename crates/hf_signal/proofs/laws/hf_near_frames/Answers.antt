use Rattle.hf_signal.proofs.Law.{near_law}
use Rattle.hf_signal.proofs.laws.hf_near_frames.Goals as goal

pub returns : goal.returns
returns c = near_law
