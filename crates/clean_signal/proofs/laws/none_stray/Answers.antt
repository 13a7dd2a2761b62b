use Rattle.clean_signal.proofs.Law.{no_stray_of}
use Rattle.clean_signal.proofs.laws.none_stray.Goals as goal

pub returns : goal.returns
returns c = no_stray_of
