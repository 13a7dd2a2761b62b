use Rattle.tnc_ports.proofs.KeyServed.{keyed_served}
use Rattle.tnc_ports.proofs.laws.a_served_run_is_keyed.Goals as goal

pub returns : goal.returns
returns c = λ words key end input left before after was out is served lines output closed.
    keyed_served words key is was out closed end input left before after served lines output
