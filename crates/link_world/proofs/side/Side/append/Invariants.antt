use Rattle.link_world.proofs.Common.{◌≡◌, ◌+◌, ◌≤◌, ◌++◌, map, length, flying}
use Rattle.std.specs.VecDeque.{deque_len, deque_capacity}
use Rattle.std.specs.Vec.Iter.{into_iter_items}
use Rattle.link_world.proofs.side.Side.append.Given as goal

abbrev pub invariant-loop-sent : goal.invariant-loop-sent
invariant-loop-sent l = record {
  can : (goal.iterator-loop-sent).can_next l.sent-iterator;
  ends : (goal.iterator-loop-sent).is_finite l.sent-iterator;
  rest : l.fn.frames.items ≡ l.yielded ++ into_iter_items l.sent-iterator;
  link : l.self.link ≡ l.fn.self.link;
  towards : l.self.towards.items ≡ l.fn.self.towards.items ++ map (flying l.fn.on_ask) l.yielded;
  room : deque_len l.self.towards + length (into_iter_items l.sent-iterator) ≤ deque_capacity l.self.towards;
}
