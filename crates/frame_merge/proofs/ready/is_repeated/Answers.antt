use Rattle.frame_merge.proofs.Common.{sym, arith, ◌∙◌}
use Rattle.frame_merge.proofs.Searching.{too_early, search_on}
use Rattle.frame_merge.proofs.ready.is_repeated.Goals as goal

pub returns-then-last-saturating_sub : goal.returns-then-last-saturating_sub
returns-then-last-saturating_sub c =
    sym (too_early c.args.item.now c.args.earlier.now c.loop-last.rest.now c.in-Some.before.now c.in-Some.last.now
    c.loop-last.invariant c.in-Some.ensures.cases.0 c.in-Some.ensures.cases.1 (omega arith))

pub loop-last-preserved : goal.loop-last-preserved
loop-last-preserved c =
    search_on c.args.item.now c.args.earlier.now c.loop-last.rest.now c.in-Some.before.now c.in-Some.last.now
    c.loop-last.invariant c.in-Some.ensures.cases.0 c.in-Some.ensures.cases.1 (sym c.repeats.ensures
    ∙ c.if-repeats.false)
