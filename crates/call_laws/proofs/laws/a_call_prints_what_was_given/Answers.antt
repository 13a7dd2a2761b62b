use Rattle.call_laws.proofs.CallLaw.{call_law_by}
use Rattle.call_laws.proofs.laws.a_call_prints_what_was_given.Goals as goal

pub returns : goal.returns
returns c = call_law_by c.stations_law.ensures c.set_ups_are_told.ensures
