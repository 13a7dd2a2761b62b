use Rattle.slicer_bank.proofs.Common.{ℕ, ◌+◌, List, get_or, set, sym, subst, arith, HeldLane}
use Rattle.slicer_bank.proofs.FeedLemmas.{DidJob}
use Rattle.slicer_bank.proofs.GatheringLemmas.{Visited, visited_none, visited_more}
use Rattle.slicer_bank.proofs.gathering.hear_in_turn.Goals as goal

pub loop-offset-init : goal.loop-offset-init
loop-offset-init c = visited_none (DidJob c.args.position c.args.recent.now c.args.block.now)
    c.args.lanes.now c.requires.lanes

pub loop-offset-preserved : goal.loop-offset-preserved
loop-offset-preserved c =
    let offset = c.loop-offset.offset in
    let lanes : List HeldLane = c.loop-offset.lanes in
    let was = c.index-lanes-from.result in
    let lane : HeldLane = c.hear_alone.new.lane in
    let Did : ℕ → HeldLane → HeldLane → Type 0 = DidJob c.args.position c.args.recent.now c.args.block.now in
    let did : Did offset (get_or lanes c.from.result was) lane =
    record {
      heard = c.hear_alone.ensures.heard;
      fit = c.hear_alone.ensures.bounds;
      asks = c.hear_alone.ensures.asks;
    } in
    subst (λ i. Visited Did c.args.lanes.now (set lanes i lane) (offset + 1)) (sym c.from.ensures)
    (visited_more Did c.args.lanes.now lanes offset was lane c.loop-offset.invariant c.loop-offset-test.true
    (subst (λ i. Did offset (get_or lanes i was) lane) c.from.ensures did))

pub returns-clause-heard : goal.returns-clause-heard
returns-clause-heard c = λ offset d small. (c.loop-offset.invariant.done offset d
    (let past = c.loop-offset-test.false in omega arith)).heard

pub returns-clause-bounds : goal.returns-clause-bounds
returns-clause-bounds c = λ offset d items small.
    (c.loop-offset.invariant.done offset d (let past = c.loop-offset-test.false in omega arith)).fit items

pub returns-clause-asks : goal.returns-clause-asks
returns-clause-asks c = λ offset d small. (c.loop-offset.invariant.done offset d
    (let past = c.loop-offset-test.false in omega arith)).asks
