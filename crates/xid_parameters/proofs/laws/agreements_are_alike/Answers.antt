use Rattle.xid_parameters.proofs.Alike.{alike}
use Rattle.xid_parameters.proofs.laws.agreements_are_alike.Goals as goal

pub returns : goal.returns
returns c = alike
