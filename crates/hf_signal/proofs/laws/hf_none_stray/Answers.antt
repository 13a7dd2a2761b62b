use Rattle.hf_signal.proofs.Law.{no_stray_of}
use Rattle.hf_signal.proofs.laws.hf_none_stray.Goals as goal

pub returns : goal.returns
returns c = no_stray_of
