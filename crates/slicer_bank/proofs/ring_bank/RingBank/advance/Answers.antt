use Rattle.slicer_bank.proofs.Common.{◌≡◌, true, List, [], ◌++◌, refl, ap, sym, ◌∙◌, subst, length, take, drop, map}
use Rattle.slicer_bank.proofs.Common.{arith, All, true≢false, length-map, append-nil, ring_id, ring_len, reader_ring}
use Rattle.slicer_bank.proofs.Common.{record_of, position_of, LaneGap, RingLane, AreInPlace, IsTaken, LanesAreReady}
use Rattle.slicer_bank.proofs.Common.{HeldRingBank, readers_of, answers_by, LanesListen, AreGrown, IsTurn, BringsOnRing}
use Rattle.slicer_bank.proofs.Common.{AreForward}
use Rattle.slicer_bank.specs.RingLanes.{Listens}
use Rattle.slicer_bank.specs.RingTurns.{ArePast}
use Rattle.slicer_bank.proofs.TurnLemmas.{are_ready, rings_stay, lent_back}
use Rattle.slicer_bank.proofs.ring_bank.RingBank.advance.Goals as goal

pub make_turn-requires-clause-ready : goal.make_turn-requires-clause-ready
make_turn-requires-clause-ready g c κs within =
    let ring = ring_id c.args.ring.now in
    let rings = subst (λ (v : HeldRingBank). All (λ reader. reader_ring reader ≡ ring) (readers_of v.lanes))
    (sym c.self.view_is) c.requires in
    subst (LanesAreReady ring) (sym c.deref_mut.ensures.value)
    (are_ready ring c.self.inside.lanes.items c.self.invariant.0 c.self.invariant.3
    (c.self.invariant.4 c.if-self.false) rings)

pub invariant_of-self : goal.invariant_of-self
invariant_of-self g c =
    let new : List RingLane = c.make_turn.new.lanes in
    let back : take c.self.inside.lanes.len (new ++ drop (length new) c.self.inside.lanes.items) ≡ new =
    lent_back c.self.inside.lanes.len new c.self.inside.lanes.items
    (sym (c.make_turn.auto.lanes ∙ c.deref_mut.ensures.len)) in
    let eight = c.make_turn.ensures.lanes in (
      ap length back ∙ c.make_turn.ensures.lanes,
      c.self.invariant.1,
      c.self.invariant.2,
      subst AreInPlace (sym back) (λ k d l. (c.make_turn.ensures.stay k d l).1),
      λ e. subst (All IsTaken) (sym back) (λ k d l. (c.in-Ok.ensures.ready k d (omega arith)).taken),
    )

pub returns-in-Ok-clause-ring : goal.returns-in-Ok-clause-ring
returns-in-Ok-clause-ring g c =
    let new : List RingLane = c.make_turn.new.lanes in
    let back : take c.self.inside.lanes.len (new ++ drop (length new) c.self.inside.lanes.items) ≡ new =
    lent_back c.self.inside.lanes.len new c.self.inside.lanes.items
    (sym (c.make_turn.auto.lanes ∙ c.deref_mut.ensures.len)) in
    subst (λ (ls : List RingLane). All (λ reader. reader_ring reader ≡ ring_id c.args.ring.now) (readers_of ls))
    (sym back) (rings_stay (ring_id c.args.ring.now) new c.make_turn.ensures.lanes c.make_turn.ensures.stay)

pub returns-in-Err-clause-ring : goal.returns-in-Err-clause-ring
returns-in-Err-clause-ring g c =
    let new : List RingLane = c.make_turn.new.lanes in
    let back : take c.self.inside.lanes.len (new ++ drop (length new) c.self.inside.lanes.items) ≡ new =
    lent_back c.self.inside.lanes.len new c.self.inside.lanes.items
    (sym (c.make_turn.auto.lanes ∙ c.deref_mut.ensures.len)) in
    subst (λ (ls : List RingLane). All (λ reader. reader_ring reader ≡ ring_id c.args.ring.now) (readers_of ls))
    (sym back) (rings_stay (ring_id c.args.ring.now) new c.make_turn.ensures.lanes c.make_turn.ensures.stay)

pub returns-in-Ok-clause-grown : goal.returns-in-Ok-clause-grown
returns-in-Ok-clause-grown g c =
    let new : List RingLane = c.make_turn.new.lanes in
    let back : take c.self.inside.lanes.len (new ++ drop (length new) c.self.inside.lanes.items) ≡ new =
    lent_back c.self.inside.lanes.len new c.self.inside.lanes.items
    (sym (c.make_turn.auto.lanes ∙ c.deref_mut.ensures.len)) in
    let same : c.deref_mut.result.now ≡ c.args.self.now.lanes = c.deref_mut.ensures.value
    ∙ ap (λ (v : HeldRingBank). v.lanes) c.self.view_is in
    subst (λ (ls : List RingLane). AreGrown (map record_of (readers_of c.args.self.now.lanes))
    (map record_of (readers_of ls))) (sym back)
    (subst (λ (ls : List RingLane). AreGrown (map record_of (readers_of ls)) (map record_of (readers_of new)))
    same c.make_turn.ensures.grown)

pub returns-in-Err-clause-grown : goal.returns-in-Err-clause-grown
returns-in-Err-clause-grown g c =
    let new : List RingLane = c.make_turn.new.lanes in
    let back : take c.self.inside.lanes.len (new ++ drop (length new) c.self.inside.lanes.items) ≡ new =
    lent_back c.self.inside.lanes.len new c.self.inside.lanes.items
    (sym (c.make_turn.auto.lanes ∙ c.deref_mut.ensures.len)) in
    let same : c.deref_mut.result.now ≡ c.args.self.now.lanes = c.deref_mut.ensures.value
    ∙ ap (λ (v : HeldRingBank). v.lanes) c.self.view_is in
    subst (λ (ls : List RingLane). AreGrown (map record_of (readers_of c.args.self.now.lanes))
    (map record_of (readers_of ls))) (sym back)
    (subst (λ (ls : List RingLane). AreGrown (map record_of (readers_of ls)) (map record_of (readers_of new)))
    same c.make_turn.ensures.grown)

pub returns-in-Ok-clause-listens : goal.returns-in-Ok-clause-listens
returns-in-Ok-clause-listens g c =
    let len = ring_len c.args.ring.now in
    let new : List RingLane = c.make_turn.new.lanes in
    let back : take c.self.inside.lanes.len (new ++ drop (length new) c.self.inside.lanes.items) ≡ new =
    lent_back c.self.inside.lanes.len new c.self.inside.lanes.items
    (sym (c.make_turn.auto.lanes ∙ c.deref_mut.ensures.len)) in
    let P : HeldRingBank → List RingLane → Type 0 = λ old lanes. Listens len old
    → Listens len record { lanes = lanes; detection = c.self.inside.detection; spent = c.self.inside.spent } in
    subst (P c.args.self.now) (sym back) (subst (λ (old : HeldRingBank). P old new) c.self.view_is (λ h. record {
      spent = h.spent;
      lanes = c.in-Ok.ensures.listen c.self.inside.detection
          (subst (LanesListen len c.self.inside.detection) (sym c.deref_mut.ensures.value) h.lanes);
    }))

pub returns-in-Ok-clause-heard : goal.returns-in-Ok-clause-heard
returns-in-Ok-clause-heard g c =
    let len = ring_len c.args.ring.now in
    let new : List RingLane = c.make_turn.new.lanes in
    let back : take c.self.inside.lanes.len (new ++ drop (length new) c.self.inside.lanes.items) ≡ new =
    lent_back c.self.inside.lanes.len new c.self.inside.lanes.items
    (sym (c.make_turn.auto.lanes ∙ c.deref_mut.ensures.len)) in
    let P : HeldRingBank → List RingLane → Type 0
    = λ old lanes. Listens len old → BringsOnRing (answers_by len old.lanes) (answers_by len lanes)
    c.in-Ok.advance.positions c.in-Ok.advance.candidates.items in
    subst (P c.args.self.now) (sym back) (subst (λ (old : HeldRingBank). P old new) c.self.view_is (λ h.
    let Q : List RingLane → Type 0 = λ old. LanesListen len c.self.inside.detection old
    → BringsOnRing (answers_by len old) (answers_by len new)
    c.in-Ok.advance.positions c.in-Ok.advance.candidates.items in
    subst Q c.deref_mut.ensures.value (c.in-Ok.ensures.heard c.self.inside.detection) h.lanes))

pub returns-in-Ok-clause-forward : goal.returns-in-Ok-clause-forward
returns-in-Ok-clause-forward g c =
    let new : List RingLane = c.make_turn.new.lanes in
    let back : take c.self.inside.lanes.len (new ++ drop (length new) c.self.inside.lanes.items) ≡ new =
    lent_back c.self.inside.lanes.len new c.self.inside.lanes.items
    (sym (c.make_turn.auto.lanes ∙ c.deref_mut.ensures.len)) in
    let same : c.deref_mut.result.now ≡ c.args.self.now.lanes = c.deref_mut.ensures.value
    ∙ ap (λ (v : HeldRingBank). v.lanes) c.self.view_is in
    subst (λ (ls : List RingLane). AreForward (map position_of (readers_of c.args.self.now.lanes))
    (map position_of (readers_of ls))) (sym back)
    (subst (λ (ls : List RingLane). AreForward (map position_of (readers_of ls)) (map position_of (readers_of new)))
    same c.in-Ok.ensures.forward)

pub returns-then-self-clause-eight : goal.returns-then-self-clause-eight
returns-then-self-clause-eight g c =
    subst (λ (v : HeldRingBank). length (readers_of v.lanes) ≡ 8) c.self.view_is
    (length-map c.self.inside.lanes.items (λ lane. lane.reader) ∙ c.self.invariant.0)

pub returns-in-Ok-clause-eight : goal.returns-in-Ok-clause-eight
returns-in-Ok-clause-eight g c =
    let new : List RingLane = c.make_turn.new.lanes in
    let back : take c.self.inside.lanes.len (new ++ drop (length new) c.self.inside.lanes.items) ≡ new =
    lent_back c.self.inside.lanes.len new c.self.inside.lanes.items
    (sym (c.make_turn.auto.lanes ∙ c.deref_mut.ensures.len)) in
    subst (λ (ls : List RingLane). length (readers_of ls) ≡ 8) (sym back)
    (length-map new (λ lane. lane.reader) ∙ c.make_turn.ensures.lanes)

pub returns-in-Err-clause-eight : goal.returns-in-Err-clause-eight
returns-in-Err-clause-eight g c =
    let new : List RingLane = c.make_turn.new.lanes in
    let back : take c.self.inside.lanes.len (new ++ drop (length new) c.self.inside.lanes.items) ≡ new =
    lent_back c.self.inside.lanes.len new c.self.inside.lanes.items
    (sym (c.make_turn.auto.lanes ∙ c.deref_mut.ensures.len)) in
    subst (λ (ls : List RingLane). length (readers_of ls) ≡ 8) (sym back)
    (length-map new (λ lane. lane.reader) ∙ c.make_turn.ensures.lanes)

pub returns-then-self-clause-ring : goal.returns-then-self-clause-ring
returns-then-self-clause-ring g c = c.requires

pub returns-then-self-clause-grown : goal.returns-then-self-clause-grown
returns-then-self-clause-grown g c = λ lane d l. ([], sym (append-nil _))

pub returns-then-self-clause-detection : goal.returns-then-self-clause-detection
returns-then-self-clause-detection g c = refl

pub returns-then-self-clause-fails : goal.returns-then-self-clause-fails
returns-then-self-clause-fails g c = λ e. refl

pub returns-then-self-clause-spent : goal.returns-then-self-clause-spent
returns-then-self-clause-spent g c =
    subst (λ (v : HeldRingBank). v.spent ≡ true) c.self.view_is c.if-self.true

pub invariant_of-self-in-Err : goal.invariant_of-self-in-Err
invariant_of-self-in-Err g c =
    let new : List RingLane = c.make_turn.new.lanes in
    let back : take c.self.inside.lanes.len (new ++ drop (length new) c.self.inside.lanes.items) ≡ new =
    lent_back c.self.inside.lanes.len new c.self.inside.lanes.items
    (sym (c.make_turn.auto.lanes ∙ c.deref_mut.ensures.len)) in (
      ap length back ∙ c.make_turn.ensures.lanes,
      c.self.invariant.1,
      c.self.invariant.2,
      subst AreInPlace (sym back) (λ k d l. (c.make_turn.ensures.stay k d l).1),
      λ e. absurd (true≢false e),
    )

pub returns-in-Ok-clause-turn : goal.returns-in-Ok-clause-turn
returns-in-Ok-clause-turn g c =
    let len = ring_len c.args.ring.now in
    let new : List RingLane = c.make_turn.new.lanes in
    let back : take c.self.inside.lanes.len (new ++ drop (length new) c.self.inside.lanes.items) ≡ new =
    lent_back c.self.inside.lanes.len new c.self.inside.lanes.items
    (sym (c.make_turn.auto.lanes ∙ c.deref_mut.ensures.len)) in
    let same : c.deref_mut.result.now ≡ c.args.self.now.lanes = c.deref_mut.ensures.value
    ∙ ap (λ (v : HeldRingBank). v.lanes) c.self.view_is in
    let gaps : List LaneGap = c.in-Ok.advance.gaps.items in
    subst (λ (ls : List RingLane). IsTurn (answers_by len c.args.self.now.lanes) (answers_by len ls) gaps
    c.in-Ok.advance.ended) (sym back)
    (subst (λ (ls : List RingLane). IsTurn (answers_by len ls) (answers_by len new) gaps c.in-Ok.advance.ended) same
    c.in-Ok.ensures.turn)

pub returns-in-Ok-clause-positions : goal.returns-in-Ok-clause-positions
returns-in-Ok-clause-positions g c =
    let new : List RingLane = c.make_turn.new.lanes in
    let back : take c.self.inside.lanes.len (new ++ drop (length new) c.self.inside.lanes.items) ≡ new =
    lent_back c.self.inside.lanes.len new c.self.inside.lanes.items
    (sym (c.make_turn.auto.lanes ∙ c.deref_mut.ensures.len)) in
    subst (λ (ls : List RingLane). c.in-Ok.advance.positions ≡ map position_of (readers_of ls)) (sym back)
    c.in-Ok.ensures.positions

pub returns-in-Ok-clause-bounds : goal.returns-in-Ok-clause-bounds
returns-in-Ok-clause-bounds g c = c.in-Ok.ensures.bounds

pub returns-in-Ok-clause-past : goal.returns-in-Ok-clause-past
returns-in-Ok-clause-past g c =
    let same : c.deref_mut.result.now ≡ c.args.self.now.lanes = c.deref_mut.ensures.value
    ∙ ap (λ (v : HeldRingBank). v.lanes) c.self.view_is in
    subst (λ (ls : List RingLane). ArePast (map position_of (readers_of ls)) c.in-Ok.advance.candidates.items) same
    c.in-Ok.ensures.past

pub returns-in-Ok-clause-detection : goal.returns-in-Ok-clause-detection
returns-in-Ok-clause-detection g c = ap (λ (v : HeldRingBank). v.detection) c.self.view_is

pub returns-in-Ok-clause-fails : goal.returns-in-Ok-clause-fails
returns-in-Ok-clause-fails g c = λ e. sym c.if-self.false ∙ ap (λ (v : HeldRingBank). v.spent) c.self.view_is ∙ e

pub returns-in-Err-clause-detection : goal.returns-in-Err-clause-detection
returns-in-Err-clause-detection g c = ap (λ (v : HeldRingBank). v.detection) c.self.view_is

pub returns-in-Err-clause-fails : goal.returns-in-Err-clause-fails
returns-in-Err-clause-fails g c = λ e. refl

pub returns-in-Err-clause-spent : goal.returns-in-Err-clause-spent
returns-in-Err-clause-spent g c = refl
