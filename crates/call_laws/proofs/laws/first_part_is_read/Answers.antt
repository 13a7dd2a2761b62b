use Rattle.call_laws.proofs.Reading.{first_part_is_read_holds}
use Rattle.call_laws.proofs.laws.first_part_is_read.Goals as goal

pub returns : goal.returns
returns c = first_part_is_read_holds
