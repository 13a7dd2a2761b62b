use Rattle.stretch_reader.proofs.Common.{refl, ring_len, subst, List, ℤ, Brings, Candidate, HoldBut, ListenBut, Stretch, with_samples}
use Rattle.stretch_reader.proofs.GoingOn.{all_come, all_come_there, none_wait, none_wait_there}
use Rattle.stretch_reader.proofs.TurnLemmas.{turn_heard}
use Rattle.stretch_reader.proofs.reading.read_on.Goals as goal

pub returns-clause-made : goal.returns-clause-made
returns-clause-made g c =
    let t = g.L.StretchLanes in
    let none : List ℤ = c.new-waiting.result.items in
    let waiting : List ℤ = c.read_turn.new.waiting.items in
    let old = c.args.lanes.now in
    let now = c.read_turn.new.lanes in
    turn_heard (t.heard (t.sensitive old)) (t.holds old) (HoldBut (t.holds old) none) (HoldBut (t.holds now) waiting)
    (t.holds c.hear.new.self) (t.listens old) (ListenBut (t.listens old) none) (ListenBut (t.listens now) waiting)
    (t.listens c.hear.new.self) (ring_len c.args.ring.now) c.args.lane c.args.reader.now c.read_turn.new.reader
    c.in_ok-turn.turn _ c.in_ok-turn.ensures.made (none_wait (t.holds old) none c.new-waiting.ensures.items)
    (none_wait_there (t.listens old) none c.new-waiting.ensures.items) refl refl
    (all_come (t.holds now) (t.holds c.hear.new.self) waiting c.in_ok-turn.turn.items.items c.hear.new.items.items
    (subst (λ w. (s : Stretch) (own : List Candidate) → t.holds now s own
    → Brings (t.holds c.hear.new.self) (with_samples s w) own c.in_ok-turn.turn.items.items c.hear.new.items.items)
    c.deref.ensures.value c.in_ok-hear.ensures.heard))
    (all_come_there (t.listens now) (t.listens c.hear.new.self) waiting
    (subst (λ w. (s : Stretch) → t.listens now s → t.listens c.hear.new.self (with_samples s w))
    c.deref.ensures.value c.in_ok-hear.ensures.listens))
