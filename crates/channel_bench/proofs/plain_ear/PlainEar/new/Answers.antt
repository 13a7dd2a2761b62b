-- Nothing is heard.
use Rattle.channel_bench.proofs.Common.{refl}
use Rattle.channel_bench.proofs.PlainEarLemmas.{ear_none}
use Rattle.channel_bench.proofs.plain_ear.PlainEar.new.Goals as goal

pub returns : goal.returns
returns c =
    ear_none _ c.in_ok-bank.ensures.stands_for c.in_ok-bank.ensures.flags refl c.in_ok-merger.ensures.marks
    c.in_ok-merger.ensures.stands_for
