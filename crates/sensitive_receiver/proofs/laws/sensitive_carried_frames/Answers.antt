use Rattle.sensitive_receiver.proofs.SignalLaw.{carried_law}
use Rattle.sensitive_receiver.proofs.laws.sensitive_carried_frames.Goals as goal

pub returns : goal.returns
returns c = carried_law
