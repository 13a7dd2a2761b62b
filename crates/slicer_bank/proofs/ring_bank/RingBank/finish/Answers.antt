use Rattle.slicer_bank.proofs.Common.{◌≡◌, ap, ◌∙◌, arith, length, ◌++◌, vec_capacity, vec_len, readers_of}
use Rattle.slicer_bank.proofs.RingBankLemmas.{given_back_more, all_given_back}
use Rattle.slicer_bank.proofs.ring_bank.RingBank.finish.Goals as goal

pub loop-lane-init : goal.loop-lane-init
loop-lane-init c =
    let gives = c.into_iter-lane-iterator.ensures.into_iter_gives in
    let lanes = c.self.invariant.0 in
    let many = gives.1 in
    let same : c.into_iter-lane-iterator.result.rest.items ≡ c.args.self.lanes = gives.0
    ∙ ap (λ v. v.lanes) c.self.view_is in
    let size : length c.into_iter-lane-iterator.result.rest.items ≡ length c.self.inside.lanes.items =
    ap length gives.0 in
    let empty : length c.self.inside.room.items ≡ 0 = ap length c.self.invariant.1 in
    let room = c.self.invariant.2 in
    record {
      parts = ap (λ l. l ++ readers_of c.into_iter-lane-iterator.result.rest.items) c.self.invariant.1
          ∙ ap readers_of same;
      counted = omega arith;
      room = omega arith;
    }

pub push_reserved-requires : goal.push_reserved-requires
push_reserved-requires c = let r = c.loop-lane.invariant.room in let n = c.in-Some.ensures.steps.1 in omega arith

pub loop-lane-preserved : goal.loop-lane-preserved
loop-lane-preserved c =
    given_back_more c.args.self.lanes c.loop-lane.lane-iterator.rest.items c.next.new.self.rest.items
    c.loop-lane.lane-iterator.rest.len c.next.new.self.rest.len c.loop-lane.room.items
    c.push_reserved.new.self.items
    (vec_len c.loop-lane.room) (vec_len c.push_reserved.new.self) (vec_capacity c.loop-lane.room)
    (vec_capacity c.push_reserved.new.self) c.in-Some.lane c.loop-lane.invariant
    c.in-Some.ensures.steps.0 c.in-Some.ensures.steps.1 c.push_reserved.ensures.items c.push_reserved.ensures.len
    c.push_reserved.ensures.capacity

pub returns : goal.returns
returns c = all_given_back c.args.self.lanes c.loop-lane.lane-iterator.rest.items c.loop-lane.lane-iterator.rest.len
    c.loop-lane.room.items (vec_len c.loop-lane.room) (vec_capacity c.loop-lane.room)
    c.loop-lane.invariant c.in-None.ensures.steps.0
