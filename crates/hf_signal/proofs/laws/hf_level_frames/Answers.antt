use Rattle.hf_signal.proofs.Law.{level_law}
use Rattle.hf_signal.proofs.laws.hf_level_frames.Goals as goal

pub returns : goal.returns
returns c = level_law
