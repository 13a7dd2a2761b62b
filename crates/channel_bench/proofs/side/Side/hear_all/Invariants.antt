-- The frames so far are heard.
use Rattle.channel_bench.proofs.Common.{take, End, Near, AreHeardAt, StandsForNear}
use Rattle.channel_bench.proofs.side.Side.hear_all.Given as goal

abbrev pub invariant-loop-item : goal.invariant-loop-item
invariant-loop-item l =
    (end : End) (n : Near) → StandsForNear end l.fn.self l.fn.shared n
    → (next : Near) × AreHeardAt end (take l.item-index l.items) n next × StandsForNear end l.self l.shared next
