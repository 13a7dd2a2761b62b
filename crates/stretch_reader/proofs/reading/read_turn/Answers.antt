use Rattle.stretch_reader.proofs.Common.{◌∙◌, All, All-nil, ap, arith, inl, inr, refl, subst, sym, is_end}
use Rattle.stretch_reader.proofs.Common.{HoldBut, ListenBut, reads_on, ring_len, Took}
use Rattle.stretch_reader.proofs.TurnLemmas.{reads_more, reads_none, still_come, turn_over}
use Rattle.stretch_reader.proofs.reading.read_turn.Goals as goal

pub loop-init : goal.loop-init
loop-init g c =
    let t = g.L.StretchLanes in
    let P = t.comes (t.sensitive c.args.lanes.now) (t.place c.args.lanes.now) in (
      reads_none (t.heard (t.sensitive c.args.lanes.now)) (HoldBut (t.holds c.args.lanes.now) c.args.waiting.now.items)
          (ListenBut (t.listens c.args.lanes.now) c.args.waiting.now.items) (ring_len c.args.ring.now) c.args.lane
          c.args.reader.now _ c.new-2.ensures.items c.new.ensures.items refl,
      record {
        at = c.requires.place;
        up = omega arith;
        room = c.requires.room;
        step = c.requires.step;
        as_sensitive = refl;
        as_many = refl;
      },
      subst (All P) (sym c.new.ensures.items) (All-nil P),
    )

pub returns-in-Empty-clause-made : goal.returns-in-Empty-clause-made
returns-in-Empty-clause-made g c =
    let t = g.L.StretchLanes in
    turn_over (t.heard (t.sensitive c.args.lanes.now)) (HoldBut (t.holds c.args.lanes.now) c.args.waiting.now.items)
    (ListenBut (t.listens c.args.lanes.now) c.args.waiting.now.items) (ring_len c.args.ring.now) c.args.lane
    c.args.reader.now (HoldBut (t.holds c.loop.lanes) c.loop.waiting.items)
    (HoldBut (t.holds c.take.new.lanes) c.take.new.waiting.items)
    (ListenBut (t.listens c.loop.lanes) c.loop.waiting.items)
    (ListenBut (t.listens c.take.new.lanes) c.take.new.waiting.items) c.loop.reader c.take.new.reader c.loop.turn
    c.take.new.turn c.loop.counter c.in_ok-take.field-0 c.loop.invariant.0
    (subst (λ v. Took (t.heard v) (HoldBut (t.holds c.loop.lanes) c.loop.waiting.items)
    (HoldBut (t.holds c.take.new.lanes) c.take.new.waiting.items)
    (ListenBut (t.listens c.loop.lanes) c.loop.waiting.items)
    (ListenBut (t.listens c.take.new.lanes) c.take.new.waiting.items) (ring_len c.args.ring.now) c.args.lane
    c.loop.reader c.take.new.reader c.in_ok-take.field-0 c.loop.turn.gaps.items c.take.new.turn.gaps.items
    c.loop.turn.items.items c.take.new.turn.items.items) c.loop.invariant.1.as_sensitive c.in_ok-take.ensures.took)
    c.loop-test.true (ap reads_on c.in-Empty.is)
    (c.take.ensures.ended ∙ c.loop.invariant.0.quiet ∙ sym (ap is_end c.in-Empty.is))

pub returns-in-End-clause-made : goal.returns-in-End-clause-made
returns-in-End-clause-made g c =
    let t = g.L.StretchLanes in
    turn_over (t.heard (t.sensitive c.args.lanes.now)) (HoldBut (t.holds c.args.lanes.now) c.args.waiting.now.items)
    (ListenBut (t.listens c.args.lanes.now) c.args.waiting.now.items) (ring_len c.args.ring.now) c.args.lane
    c.args.reader.now (HoldBut (t.holds c.loop.lanes) c.loop.waiting.items)
    (HoldBut (t.holds c.take.new.lanes) c.take.new.waiting.items)
    (ListenBut (t.listens c.loop.lanes) c.loop.waiting.items)
    (ListenBut (t.listens c.take.new.lanes) c.take.new.waiting.items) c.loop.reader c.take.new.reader c.loop.turn
    _ c.loop.counter c.in_ok-take.field-0 c.loop.invariant.0
    (subst (λ v. Took (t.heard v) (HoldBut (t.holds c.loop.lanes) c.loop.waiting.items)
    (HoldBut (t.holds c.take.new.lanes) c.take.new.waiting.items)
    (ListenBut (t.listens c.loop.lanes) c.loop.waiting.items)
    (ListenBut (t.listens c.take.new.lanes) c.take.new.waiting.items) (ring_len c.args.ring.now) c.args.lane
    c.loop.reader c.take.new.reader c.in_ok-take.field-0 c.loop.turn.gaps.items c.take.new.turn.gaps.items
    c.loop.turn.items.items c.take.new.turn.items.items) c.loop.invariant.1.as_sensitive c.in_ok-take.ensures.took)
    c.loop-test.true (ap reads_on c.in-End.is) (sym (ap is_end c.in-End.is))

pub loop-preserved : goal.loop-preserved
loop-preserved g c =
    let t = g.L.StretchLanes in
    let keep = c.loop.invariant.1 in
    let was = keep.up in
    let up = c.in_ok-take.ensures.up in (
      reads_more (t.heard (t.sensitive c.args.lanes.now)) (HoldBut (t.holds c.args.lanes.now) c.args.waiting.now.items)
          (ListenBut (t.listens c.args.lanes.now) c.args.waiting.now.items) (ring_len c.args.ring.now) c.args.lane
          c.args.reader.now (HoldBut (t.holds c.loop.lanes) c.loop.waiting.items)
          (HoldBut (t.holds c.take.new.lanes) c.take.new.waiting.items)
          (ListenBut (t.listens c.loop.lanes) c.loop.waiting.items)
          (ListenBut (t.listens c.take.new.lanes) c.take.new.waiting.items) c.loop.reader c.take.new.reader c.loop.turn
          c.take.new.turn c.loop.counter c.in_ok-take.field-0 c.loop.invariant.0
          (subst (λ v. Took (t.heard v) (HoldBut (t.holds c.loop.lanes) c.loop.waiting.items)
          (HoldBut (t.holds c.take.new.lanes) c.take.new.waiting.items)
          (ListenBut (t.listens c.loop.lanes) c.loop.waiting.items)
          (ListenBut (t.listens c.take.new.lanes) c.take.new.waiting.items) (ring_len c.args.ring.now) c.args.lane
          c.loop.reader c.take.new.reader c.in_ok-take.field-0 c.loop.turn.gaps.items c.take.new.turn.gaps.items
          c.loop.turn.items.items c.take.new.turn.items.items) keep.as_sensitive c.in_ok-take.ensures.took)
          c.take.ensures.ring c.take.ensures.ended
          (elim c.in-Item.is [ inl item ↦ ap reads_on item.2 | inr gap ↦ ap reads_on gap.2 ]),
      record {
        at = c.in_ok-take.ensures.place;
        up = omega arith;
        room = c.in_ok-take.ensures.room;
        step = c.in_ok-take.ensures.step;
        as_sensitive = c.take.ensures.sensitive ∙ keep.as_sensitive;
        as_many = c.take.ensures.flags ∙ keep.as_many;
      },
      still_come t.comes (t.sensitive c.args.lanes.now) (t.sensitive c.loop.lanes) (t.place c.args.lanes.now)
          c.loop.turn.items.items c.take.new.turn.items.items keep.as_sensitive
          (c.in_ok-take.ensures.comes (t.place c.args.lanes.now) was) c.loop.invariant.2,
    )

pub returns-in-Empty-clause-comes : goal.returns-in-Empty-clause-comes
returns-in-Empty-clause-comes g c =
    let t = g.L.StretchLanes in
    let keep = c.loop.invariant.1 in
    still_come t.comes (t.sensitive c.args.lanes.now) (t.sensitive c.loop.lanes) (t.place c.args.lanes.now)
    c.loop.turn.items.items c.take.new.turn.items.items keep.as_sensitive
    (c.in_ok-take.ensures.comes (t.place c.args.lanes.now) keep.up) c.loop.invariant.2

pub returns-in-End-clause-comes : goal.returns-in-End-clause-comes
returns-in-End-clause-comes g c =
    let t = g.L.StretchLanes in
    let keep = c.loop.invariant.1 in
    still_come t.comes (t.sensitive c.args.lanes.now) (t.sensitive c.loop.lanes) (t.place c.args.lanes.now)
    c.loop.turn.items.items c.take.new.turn.items.items keep.as_sensitive
    (c.in_ok-take.ensures.comes (t.place c.args.lanes.now) keep.up) c.loop.invariant.2
