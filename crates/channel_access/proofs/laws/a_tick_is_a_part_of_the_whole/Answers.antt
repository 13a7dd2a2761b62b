use Rattle.channel_access.proofs.WholeLemmas.{tick_in_whole}
use Rattle.channel_access.proofs.laws.a_tick_is_a_part_of_the_whole.Goals as goal

pub returns : goal.returns
returns c = tick_in_whole
