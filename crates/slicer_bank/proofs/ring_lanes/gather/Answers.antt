use Rattle.slicer_bank.proofs.Common.{◌≡◌, ◌+◌, List, Bool, ◌&&◌, ap, sym, ◌∙◌, rules, arith, set, subst}
use Rattle.slicer_bank.proofs.Common.{IsNonDecreasingBy, IsNonDecreasingBy-from_sort_by_key, Candidate, RingLane}
use Rattle.slicer_bank.proofs.RingGatheringLemmas.{HaveGiven, given_more, turn_gathered}
use Rattle.slicer_bank.proofs.ring_lanes.gather.Goals.{then-ended, else-ended}
use Rattle.slicer_bank.proofs.ring_lanes.gather.Goals as goal

pub loop-index-preserved : goal.loop-index-preserved
loop-index-preserved c =
    let index = c.loop-index.index in
    let lane : RingLane = c.hand_over.new.self in
    let more : (lanes : List RingLane) (ended : Bool) → lanes ≡ set c.loop-index.lanes index lane
    → ended ≡ (c.loop-index.ended && lane.ended)
    → HaveGiven c.args.lanes.now lanes (index + 1) (set c.loop-index.positions index c.at.result)
    c.hand_over.new.candidates.items c.hand_over.new.gaps.items ended
    = λ lanes ended is over. subst (λ ls. HaveGiven c.args.lanes.now ls (index + 1)
    (set c.loop-index.positions index c.at.result) c.hand_over.new.candidates.items c.hand_over.new.gaps.items
    ended) (sym is)
    (given_more c.args.lanes.now c.loop-index.lanes index c.loop-index.positions c.loop-index.candidates.items
    c.hand_over.new.candidates.items c.loop-index.gaps.items c.hand_over.new.gaps.items
    c.loop-index.ended ended c.index-lanes-index.result lane c.at.result c.loop-index.invariant c.loop-index-test.true
    c.hand_over.ensures.alike c.in_ok-hand_over.ensures.taken
    c.in_ok-hand_over.ensures.spent c.in_ok-hand_over.ensures.candidates c.in_ok-hand_over.ensures.gaps c.at.ensures
    over) in
    elim c.if-ended.branch [
      | then-ended w ↦ more c.if-ended.lanes c.if-ended.ended w.lanes-is (w.ended-is
          ∙ ap (λ (b : Bool). b && lane.ended) (sym w.if-ended.true))
      | else-ended w ↦ more c.if-ended.lanes c.if-ended.ended w.lanes-is (w.ended-is ∙ w.if-ended.false
          ∙ ap (λ (b : Bool). b && lane.ended) (sym w.if-ended.false))
    ]

pub returns-clause-gathered : goal.returns-clause-gathered
returns-clause-gathered c =
    let below = c.loop-index-test.false in
    let above = c.loop-index.auto.index-end in
    let rises : IsNonDecreasingBy (λ (y : Candidate). y.end) c.sort_unstable_by_key.new.self.items
    = IsNonDecreasingBy-from_sort_by_key (λ (y : Candidate). y.end) _ c.sort_unstable_by_key.ensures.sorted
    (λ a r q k. search rules) in
    turn_gathered c.args.lanes.now c.loop-index.lanes c.loop-index.index c.loop-index.positions
    c.loop-index.candidates.items c.sort_unstable_by_key.new.self.items c.loop-index.gaps.items c.loop-index.ended
    c.loop-index.invariant (omega arith) c.sort_unstable_by_key.ensures.permutation rises
