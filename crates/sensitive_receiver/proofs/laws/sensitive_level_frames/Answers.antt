use Rattle.sensitive_receiver.proofs.SignalLaw.{level_law}
use Rattle.sensitive_receiver.proofs.laws.sensitive_level_frames.Goals as goal

pub returns : goal.returns
returns c = level_law
