use Rattle.sensitive_receiver.proofs.SignalLaw.{near_law}
use Rattle.sensitive_receiver.proofs.laws.sensitive_near_frames.Goals as goal

pub returns : goal.returns
returns c = near_law
