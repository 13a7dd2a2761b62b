use Rattle.channel_access.proofs.WholeLemmas.{whole_at_end}
use Rattle.channel_access.proofs.laws.the_end_is_a_transmission.Goals as goal

pub returns : goal.returns
returns c = whole_at_end
