-- Nothing is heard.
use Rattle.channel_bench.proofs.Common.{refl}
use Rattle.channel_bench.proofs.BlockEarLemmas.{block_ear_none}
use Rattle.channel_bench.proofs.block_ear.BlockEar.new.Goals as goal

pub returns : goal.returns
returns c =
    block_ear_none _ c.in_ok-bank.ensures.stands_for c.in_ok-bank.ensures.flags refl
    c.in_ok-receiver.ensures.stands_for
