use Rattle.channel_access.proofs.QuietBegins.{begins_while_free}
use Rattle.channel_access.proofs.laws.half_duplex_begins_while_free.Goals as goal

pub returns : goal.returns
returns c = begins_while_free
