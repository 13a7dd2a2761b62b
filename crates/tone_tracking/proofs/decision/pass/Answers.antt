use Rattle.tone_tracking.proofs.Common.{arith, Space}
use Rattle.tone_tracking.proofs.PhasorLemmas.{sum_within, turned_back_within, within_more}
use Rattle.tone_tracking.proofs.decision.pass.Goals as goal

pub turned_back-space-requires : goal.turned_back-space-requires
turned_back-space-requires c =
    within_more 1189500002 2100000000 _
    (sum_within 297000000 892500002 _ _ _ c.plus.ensures c.requires.now.space c.remains-remains.ensures.bound)
    (omega arith)

pub returns-in-Mark-clause-bound : goal.returns-in-Mark-clause-bound
returns-in-Mark-clause-bound c =
    within_more 1189500002 1190000000 _
    (sum_within 297000000 892500002 _ _ _ c.plus-mark.ensures c.requires.now.mark c.remains-remains.ensures.bound)
    (omega arith)

pub returns-in-Space-clause-bound : goal.returns-in-Space-clause-bound
returns-in-Space-clause-bound c =
    let sum = within_more 1189500002 1190000000 _
    (sum_within 297000000 892500002 _ _ _ c.plus.ensures c.requires.now.space c.remains-remains.ensures.bound)
    (omega arith) in
    turned_back_within 1190000000 Space _ _ c.turned_back-space.ensures sum
