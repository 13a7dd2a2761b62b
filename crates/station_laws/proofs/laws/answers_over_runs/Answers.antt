use Rattle.station_laws.proofs.AnswerRuns.{answers_over_runs}
use Rattle.station_laws.proofs.laws.answers_over_runs.Goals as goal

pub returns : goal.returns
returns c = answers_over_runs
