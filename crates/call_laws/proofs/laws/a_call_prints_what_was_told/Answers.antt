use Rattle.call_laws.proofs.CallLaw.{call_told_holds}
use Rattle.call_laws.proofs.laws.a_call_prints_what_was_told.Goals as goal

pub returns : goal.returns
returns c = call_told_holds
