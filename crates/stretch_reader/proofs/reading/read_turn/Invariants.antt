use Rattle.stretch_reader.proofs.Common.{All, HoldBut, ListenBut, ring_len}
use Rattle.stretch_reader.proofs.TurnLemmas.{Keep, ReadsOn}
use Rattle.stretch_reader.proofs.reading.read_turn.Given as goal

abbrev pub invariant-loop : goal.invariant-loop
invariant-loop g l =
    let t = g.L.StretchLanes in
    ReadsOn (t.heard (t.sensitive l.fn.lanes)) (HoldBut (t.holds l.fn.lanes) l.fn.waiting.items)
    (ListenBut (t.listens l.fn.lanes) l.fn.waiting.items) (ring_len l.fn.ring) l.fn.lane l.fn.reader
    (HoldBut (t.holds l.lanes) l.waiting.items) (ListenBut (t.listens l.lanes) l.waiting.items) l.reader l.turn l.counter
    × Keep t.place t.in_step t.sensitive t.flags l.fn.lanes l.lanes l.waiting.items l.reader
    × All (t.comes (t.sensitive l.fn.lanes) (t.place l.fn.lanes)) l.turn.items.items
