use Rattle.fx25_receiver.proofs.RestingLemmas.{new_stands}
use Rattle.fx25_receiver.proofs.resting_reader.RestingReader.new.Goals as goal

pub returns-clause-stands_for : goal.returns-clause-stands_for
returns-clause-stands_for c = new_stands c.new.result c.new.ensures.stands_for
