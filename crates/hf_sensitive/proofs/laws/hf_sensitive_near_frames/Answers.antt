use Rattle.hf_sensitive.proofs.SignalLaw.{near_law}
use Rattle.hf_sensitive.proofs.laws.hf_sensitive_near_frames.Goals as goal

pub returns : goal.returns
returns c = near_law
