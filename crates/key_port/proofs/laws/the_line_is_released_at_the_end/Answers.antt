use Rattle.key_port.proofs.EndOfRun.{line_released}
use Rattle.key_port.proofs.laws.the_line_is_released_at_the_end.Goals as goal

pub returns : goal.returns
returns c = line_released
