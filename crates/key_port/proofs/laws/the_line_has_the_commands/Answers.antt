use Rattle.key_port.proofs.Bridge.{same_commands}
use Rattle.key_port.proofs.laws.the_line_has_the_commands.Goals as goal

pub returns : goal.returns
returns c = same_commands
