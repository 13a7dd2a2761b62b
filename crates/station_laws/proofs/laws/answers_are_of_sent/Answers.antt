use Rattle.station_laws.proofs.Answering.{answers_are_of_sent}
use Rattle.station_laws.proofs.laws.answers_are_of_sent.Goals as goal

pub returns : goal.returns
returns c = answers_are_of_sent
