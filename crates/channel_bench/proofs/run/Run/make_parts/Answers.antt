-- What hosts and stations do, and then what comes of it.
use Rattle.channel_bench.proofs.Common.{each_tick, acts, sounds}
use Rattle.channel_bench.proofs.CountLemmas.{acts_counted}
use Rattle.channel_bench.proofs.PartLemmas.{parts_append}
use Rattle.channel_bench.proofs.run.Run.make_parts.Goals as goal

pub act-requires : goal.act-requires
act-requires c = (c.requires.stands.0, c.requires.stands.1, c.requires.stands.2)

pub sound-requires-clause-stands : goal.sound-requires-clause-stands
sound-requires-clause-stands c =
    let need = c.requires.stands in
    let one = c.in_ok-act.ensures.made need.0 need.1 need.2 in
    (need.0, one.0, one.2, need.3, acts_counted need.0 need.1 one.0 one.1 need.4)

pub returns-clause-made : goal.returns-clause-made
unfolding each_tick
returns-clause-made c = λ w bench h.
    let one = c.in_ok-act.ensures.made w bench h in
    let two = c.in_ok-sound.ensures.made w one.0 one.2 in
    (two.0, parts_append w acts sounds bench one.0 two.0 one.1 two.1, two.2)
