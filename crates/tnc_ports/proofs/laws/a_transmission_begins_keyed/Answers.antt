use Rattle.tnc_ports.proofs.KeyBegins.{begins_keyed}
use Rattle.tnc_ports.proofs.laws.a_transmission_begins_keyed.Goals as goal

pub returns : goal.returns
returns c = begins_keyed
