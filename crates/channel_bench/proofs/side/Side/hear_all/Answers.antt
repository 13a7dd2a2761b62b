-- One frame after another.
use Rattle.channel_bench.proofs.Common.{sym, subst, take_all, HasFrameLength, Candidate, AreHeardAt}
use Rattle.channel_bench.proofs.HearLemmas.{heard_more}
use Rattle.channel_bench.proofs.side.Side.hear_all.Goals as goal

pub hear-requires : goal.hear-requires
hear-requires c =
    subst (λ (x : Candidate). HasFrameLength x.octets) (sym c.item-item.is)
    (c.requires c.loop-item.item-index c.item-item.result c.loop-item-test.true)

pub loop-item-preserved : goal.loop-item-preserved
loop-item-preserved c = λ end n h.
    let was = c.loop-item.invariant end n h in
    let made = c.in_ok-hear.ensures.heard end was.0 was.2 in (
      made.0,
      heard_more end c.args.items.now c.loop-item.item-index c.item-item.result c.item-item.result n was.0 made.0
          c.loop-item-test.true c.item-item.is
          was.1 made.1,
      made.2,
    )

pub returns-clause-heard : goal.returns-clause-heard
returns-clause-heard c = λ end n h.
    let was = c.loop-item.invariant end n h in (
      was.0,
      subst (λ xs. AreHeardAt end xs n was.0)
          (take_all c.loop-item.item-index c.args.items.now c.loop-item-test.false) was.1,
      was.2,
    )
