use Rattle.ring_receiver.proofs.Common.{◌≡◌, ap, ◌∙◌, arith, length, ◌++◌, ◌∷◌, [], vec_capacity, vec_len}
use Rattle.ring_receiver.proofs.ReaderLemmas.{gone_back_more, all_gone_back}
use Rattle.ring_receiver.proofs.added_ring.AddedRing.finish.Goals as goal

pub loop-other-init : goal.loop-other-init
loop-other-init c =
    let gives = c.into_iter-other-iterator.ensures.into_iter_gives in
    let many = gives.1 in
    let eight = c.requires in
    let size : length c.into_iter-other-iterator.result.rest.items ≡ length c.args.eight.items = ap length gives.0 in
    let empty : length c.args.self.room.items ≡ 0 = ap length c.args.self.empty in
    let room = c.args.self.has_room in
    record {
      parts = ap (λ l. l ++ c.into_iter-other-iterator.result.rest.items) c.args.self.empty ∙ gives.0;
      counted = omega arith;
      room = omega arith;
    }

pub push_reserved-requires : goal.push_reserved-requires
push_reserved-requires c = let r = c.loop-other.invariant.room in let n = c.in-Some.ensures.steps.1 in omega arith

pub loop-other-preserved : goal.loop-other-preserved
loop-other-preserved c =
    gone_back_more c.args.eight.items c.loop-other.other-iterator.rest.items c.next.new.self.rest.items
    c.loop-other.other-iterator.rest.len c.next.new.self.rest.len c.loop-other.room.items
    c.push_reserved.new.self.items (vec_len c.loop-other.room) (vec_len c.push_reserved.new.self)
    (vec_capacity c.loop-other.room) (vec_capacity c.push_reserved.new.self) c.in-Some.other c.loop-other.invariant
    c.in-Some.ensures.steps.0 c.in-Some.ensures.steps.1 c.push_reserved.ensures.items c.push_reserved.ensures.len
    c.push_reserved.ensures.capacity

pub push_reserved-requires-2 : goal.push_reserved-requires-2
push_reserved-requires-2 c = let r = c.loop-other.invariant.room in omega arith

pub returns : goal.returns
returns c = c.push_reserved-2.ensures.items
    ∙ ap (λ l. l ++ c.args.self.reader ∷ []) (all_gone_back c.args.eight.items
    c.loop-other.other-iterator.rest.items c.loop-other.other-iterator.rest.len c.loop-other.room.items
    (vec_len c.loop-other.room) (vec_capacity c.loop-other.room) c.loop-other.invariant c.in-None.ensures.steps.0)
