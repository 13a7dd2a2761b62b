use Rattle.sensitive_receiver.proofs.SignalLaw.{none_stray_of}
use Rattle.sensitive_receiver.proofs.laws.sensitive_none_stray.Goals as goal

pub returns : goal.returns
returns c = none_stray_of
