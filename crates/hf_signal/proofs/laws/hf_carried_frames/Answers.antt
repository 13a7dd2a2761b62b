use Rattle.hf_signal.proofs.Law.{carried_law}
use Rattle.hf_signal.proofs.laws.hf_carried_frames.Goals as goal

pub returns : goal.returns
returns c = carried_law
