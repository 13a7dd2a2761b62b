use Rattle.channel_access.proofs.WholeLemmas.{decided_adds}
use Rattle.channel_access.proofs.laws.decisions_add_bits.Goals as goal

pub returns : goal.returns
returns c = decided_adds
