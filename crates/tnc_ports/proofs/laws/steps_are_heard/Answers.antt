use Rattle.tnc_ports.proofs.StepLemmas.{hears_step}
use Rattle.tnc_ports.proofs.laws.steps_are_heard.Goals as goal

pub returns : goal.returns
returns c = record { heard = hears_step }
