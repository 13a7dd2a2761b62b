use Rattle.link_world.proofs.law.ChangesLaw.{changes_law_holds, changes-events, quiet-events}
use Rattle.link_world.proofs.laws.changes_law.Goals as goal

pub returns-clause-law : goal.returns-clause-law
returns-clause-law c = changes_law_holds

pub returns-clause-run_of_events : goal.returns-clause-run_of_events
returns-clause-run_of_events c = changes-events

pub returns-clause-quiet_events : goal.returns-clause-quiet_events
returns-clause-quiet_events c = quiet-events
