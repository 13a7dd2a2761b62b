use Rattle.clean_signal.proofs.Law.{clean_law}
use Rattle.clean_signal.proofs.laws.clean_frames.Goals as goal

pub returns : goal.returns
returns c = clean_law
