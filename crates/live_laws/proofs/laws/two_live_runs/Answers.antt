use Rattle.live_laws.proofs.LiveLaw.{live_law_by}
use Rattle.live_laws.proofs.laws.two_live_runs.Goals as goal

pub returns : goal.returns
returns c = live_law_by c.stations_law.ensures c.set_ups_are_told.ensures c.bodies_are_given.ensures
