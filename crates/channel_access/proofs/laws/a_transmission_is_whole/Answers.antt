use Rattle.channel_access.proofs.WholeRun.{whole_transmission}
use Rattle.channel_access.proofs.laws.a_transmission_is_whole.Goals as goal

pub returns : goal.returns
returns c = whole_transmission
