use Rattle.hf_sensitive.proofs.SignalLaw.{carried_law}
use Rattle.hf_sensitive.proofs.laws.hf_sensitive_carried_frames.Goals as goal

pub returns : goal.returns
returns c = carried_law
