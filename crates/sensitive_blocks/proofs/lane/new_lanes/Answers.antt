use Rattle.sensitive_blocks.proofs.Common.{◌≡◌, ◌+◌, ◌∙◌, arith, sym, subst}
use Rattle.sensitive_blocks.proofs.LaneLemmas.{AreFresh, fresh_more}
use Rattle.sensitive_blocks.proofs.lane.new_lanes.Goals as goal

pub loop-preserved : goal.loop-preserved
loop-preserved c =
    subst (AreFresh (c.loop.counter + 1)) (sym c.in_ok-push.ensures.items)
    (fresh_more c.loop.counter c.loop.lanes.items c.new.result c.loop.invariant c.new.ensures)

pub returns-clause-count : goal.returns-clause-count
returns-clause-count c =
    let all : c.loop.counter ≡ 26 = omega arith in c.loop.invariant.count ∙ all

pub returns-clause-fresh : goal.returns-clause-fresh
returns-clause-fresh c = c.loop.invariant.each
