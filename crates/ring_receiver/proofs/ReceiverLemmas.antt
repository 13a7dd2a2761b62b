-- What a turn makes of a receiver: with the eight lanes alone, and with the added ones.
use Rattle.ring_receiver.proofs.Common.{Some, None, min, ◌≡◌, ℕ, ◌+◌, ◌-◌, ◌^◌, ◌<◌, ◌≤◌, Bool, true, false, ◌&&◌, List, []}
use Rattle.ring_receiver.proofs.Common.{◌∷◌, ◌++◌, length, map, replicate, get_or, refl, ap, sym, subst, ◌∙◌, arith}
use Rattle.ring_receiver.proofs.Common.{length-append, get_or-append-add, All, length-map, map-append}
use Rattle.ring_receiver.proofs.Common.{get_or_append_left, get_or-replicate, All-push, Got, Reader, Entry, Track}
use Rattle.ring_receiver.proofs.Common.{position_of, reads_of, reader_ring, Candidate, least, LaneGap}
use Rattle.ring_receiver.proofs.Common.{least_position, answers_of, Listens, HasMerged, AreGrown, IsTurn, BringsOnRing}
use Rattle.ring_receiver.proofs.Common.{CanBePut, CanBePutFrom, position_after, least_rises, leads_position}
use Rattle.ring_receiver.proofs.Common.{AddedRing, Turn, MadeAddedTurn, AreAddedSince, BringsByAll, AreHeardBy}
use Rattle.ring_receiver.proofs.Common.{AreMergedBy, AreRestBy, AreDueBy, settled_position, HasMergedBy, AddedListens}
use Rattle.ring_receiver.proofs.Common.{held_of, IsTurnOf, AreGrownBy}
use Rattle.std.specs.Prelude.{Result, Ok, Err, IfOk}
use Rattle.std.specs.Result.{IsErrAnd}
use Rattle.atomic_table.specs.Seated.{TableId}
use Rattle.sample_ring.specs.Ends.{record_of}
use Rattle.frame_merge.specs.Held.{Held as HeldMerger}
use Rattle.slicer_bank.specs.HeardOnRing.{AreHeardOnRing, AreMergedOnRing, AreRestOnRing}
use Rattle.slicer_bank.specs.RingLanes.{HeldRingBank, readers_in as readers_of_bank, records_in as records_of_bank}
use Rattle.slicer_bank.specs.RingLanes.{positions_in as positions_of_bank, answers_in as answers_of_bank}
use Rattle.slicer_bank.specs.RingTurns.{ArePast}
use Rattle.slicer_bank.specs.Merging.{CanBePut as CanBePutOfEight, AreInTime}
use Rattle.ring_receiver.specs.declared.heard.Heard.{Heard}
use Rattle.ring_receiver.specs.HeldReceiver.{Hears, place_of}
use Rattle.ring_receiver.specs.ReceiverTurns.{AreInStep, MakesTurn, ReadersStay}
use Rattle.ring_receiver.proofs.AddedLemmas.{answers_more, listens_more, since}
use Rattle.ring_receiver.proofs.LengthLemmas.{due_lengths}
use Rattle.ring_receiver.proofs.TurnLemmas.{grown_nine, turn_eight, turn_nine, brings_nine, least_nine}

-- what is due, by whether the ring has ended
due_of : (sensitive ended : Bool) (before now : List (List Got)) (items : List Candidate)
    → (ended ≡ false
    → AreMergedBy sensitive (settled_position sensitive before) (settled_position sensitive now) now items)
    → (ended ≡ true → AreRestBy sensitive (settled_position sensitive before) now items)
    → AreDueBy sensitive ended before now items
due_of sensitive false before now items merges rests = merges refl
due_of sensitive true before now items merges rests = rests refl

-- a turn that wanted memory brings nothing
pub none_made : {T E : Type 0} (Q : E → Type 0) (result : Result T E) (P : T → Type 0) → IsErrAnd result Q
    → IfOk result P
none_made Q (Ok v) P e = absurd e
none_made Q (Err e) P is = tt

-- ---- the eight lanes alone

module _ (len : ℕ) (old new : HeldRingBank) (was now : HeldMerger) (heard : Heard) (positions : List ℕ)
    (candidates : List Candidate)
    (turn : IsTurn (answers_of_bank len old) (answers_of_bank len new) heard.gaps.items heard.ended)
    (listens : Listens len old → Listens len new)
    (brings : Listens len old
    → BringsOnRing (answers_of_bank len old) (answers_of_bank len new) positions candidates)
    (stand : positions ≡ positions_of_bank new)
    (merges : heard.ended ≡ false → (b n : List (List Got)) → HasMerged was b → BringsOnRing b n positions candidates
    → HasMerged now n × AreMergedOnRing (least_position b) (least_position n) n heard.items.items)
    (rests : heard.ended ≡ true → (b n : List (List Got)) → HasMerged was b → BringsOnRing b n positions candidates
    → AreRestOnRing (least_position b) n heard.items.items)
    (marks : heard.ended ≡ false → now.marks ≡ positions) (lowest : heard.least ≡ least positions) where
  heard_by : (lanes : List (List Got)) (items : List Candidate) → AreHeardOnRing lanes items
      → AreHeardBy false lanes items
  heard_by lanes items are = record { each = are.each; whole = are.whole; order = are.order }

  due : Hears len (held_of old None was false)
      → AreDueBy false heard.ended (answers_of_bank len old) (answers_of_bank len new) heard.items.items
  due h = due_of false heard.ended (answers_of_bank len old) (answers_of_bank len new) heard.items.items
      (λ e.
      let m = (merges e (answers_of_bank len old) (answers_of_bank len new) h.merged (brings h.eight)).1 in
      record { candidates = m.candidates; are = heard_by (answers_of_bank len new) m.candidates m.are; is = m.is })
      (λ e.
      let m = rests e (answers_of_bank len old) (answers_of_bank len new) h.merged (brings h.eight) in
      record { candidates = m.candidates; are = heard_by (answers_of_bank len new) m.candidates m.are; is = m.is })

  lowest_now : Hears len (held_of old None was false) → heard.least ≡ least_position (answers_of_bank len new)
  lowest_now h = lowest ∙ ap least (brings h.eight).stand

  pub eight_turn : MakesTurn len (held_of old None was false) (held_of new None now false) heard
  eight_turn = record {
    turn = turn_eight (answers_of_bank len old) (answers_of_bank len new) heard.gaps.items heard.ended turn;
    listens = listens;
    due = due;
    lengths = λ h. due_lengths false heard.ended (answers_of_bank len old) (answers_of_bank len new) heard.items.items
        (due h);
    hears = λ e h. record {
      spent = refl;
      eight = listens h.eight;
      added = tt;
      merged = (merges e (answers_of_bank len old) (answers_of_bank len new) h.merged (brings h.eight)).0;
    };
    least = lowest_now;
    forward = λ h. subst (λ p. least_position (answers_of_bank len old) ≤ p) (sym (lowest_now h))
        (least_rises (answers_of_bank len old) (answers_of_bank len new) positions candidates (brings h.eight));
    step = λ e. record { read = refl; room = omega arith; marks = marks e ∙ stand };
  }

pub eight_stay : (ring : TableId) (old new : HeldRingBank) (was now : HeldMerger)
    → length (readers_of_bank new) ≡ 8 → All (λ reader. reader_ring reader ≡ ring) (readers_of_bank new)
    → AreGrown (records_of_bank old) (records_of_bank new) → new.detection ≡ old.detection
    → ReadersStay ring (held_of old None was false) (held_of new None now false)
eight_stay ring old new was now eight rings grown detection =
    record { eight = eight; rings = rings; grown = grown; detection = detection; sensitive = refl }

-- ---- the eight lanes and the added ones

pub all_stay : (ring : TableId) (old new : HeldRingBank) (added added' : AddedRing) (was now : HeldMerger)
    (entries : List Entry) → length (readers_of_bank old) ≡ 8 → length (readers_of_bank new) ≡ 8
    → All (λ reader. reader_ring reader ≡ ring) (readers_of_bank new) → reader_ring added'.reader ≡ ring
    → AreGrown (records_of_bank old) (records_of_bank new)
    → reads_of added'.reader ≡ reads_of added.reader ++ entries → new.detection ≡ old.detection
    → ReadersStay ring (held_of old (Some added) was false) (held_of new (Some added') now false)
all_stay ring old new added added' was now entries many_old many rings own grown more detection =
    let R : List Reader → List Track = map record_of in
    record {
      eight = many;
      rings = All-push (λ reader. reader_ring reader ≡ ring) (readers_of_bank new) added'.reader rings own;
      grown = subst (λ t. AreGrownBy 9 t (map record_of (readers_of_bank new ++ added'.reader ∷ [])))
          (sym (map-append record_of (readers_of_bank old) (added.reader ∷ [])))
          (subst (AreGrownBy 9 (records_of_bank old ++ record_of added.reader ∷ []))
          (sym (map-append record_of (readers_of_bank new) (added'.reader ∷ [])))
          (grown_nine (records_of_bank old) (records_of_bank new) (record_of added.reader) (record_of added'.reader)
          entries (length-map (readers_of_bank old) record_of ∙ many_old)
          (length-map (readers_of_bank new) record_of ∙ many) grown more));
      detection = detection;
      sensitive = refl;
    }

module _ (len : ℕ) (old new : HeldRingBank) (added added' : AddedRing) (was now : HeldMerger) (heard : Heard)
    (positions : List ℕ) (position : ℕ) (candidates : List Candidate) (gaps : List LaneGap) (ended : Bool)
    (turn : Turn)
    (many_old : length (readers_of_bank old) ≡ 8) (many : length (readers_of_bank new) ≡ 8)
    (first : IsTurn (answers_of_bank len old) (answers_of_bank len new) gaps ended)
    (listens : Listens len old → Listens len new)
    (brings : Listens len old
    → BringsOnRing (answers_of_bank len old) (answers_of_bank len new) positions candidates)
    (stand : positions ≡ positions_of_bank new)
    (made : MadeAddedTurn len added added' turn) (here : position ≡ position_of added'.reader)
    (comes : All (CanBePutFrom (position_of added.reader - 32)) turn.items.items)
    (at : place_of added'.lanes ≡ position_of added'.reader) (room : position_of added'.reader < 2 ^ 48)
    (over : heard.ended ≡ (ended && turn.ended)) (told : heard.gaps.items ≡ gaps ++ turn.gaps.items)
    (merges : heard.ended ≡ false → (b n : List (List Got)) → HasMergedBy true was b
    → BringsByAll b n positions position candidates turn.items.items
    → HasMergedBy true now n
    × AreMergedBy true (settled_position true b) (settled_position true n) n heard.items.items)
    (rests : heard.ended ≡ true → (b n : List (List Got)) → HasMergedBy true was b
    → BringsByAll b n positions position candidates turn.items.items
    → AreRestBy true (settled_position true b) n heard.items.items)
    (marks : heard.ended ≡ false → now.marks ≡ positions ++ replicate 18 (position - 32))
    (lowest : heard.least ≡ min (least positions) position) where
  b : List (List Got)
  b = map (answers_of len) (readers_of_bank old ++ added.reader ∷ [])

  n : List (List Got)
  n = map (answers_of len) (readers_of_bank new ++ added'.reader ∷ [])

  b_is : answers_of_bank len old ++ answers_of len added.reader ∷ [] ≡ b
  unfolding b
  b_is = sym (map-append (answers_of len) (readers_of_bank old) (added.reader ∷ []))

  n_is : answers_of_bank len new ++ answers_of len added'.reader ∷ [] ≡ n
  unfolding n
  n_is = sym (map-append (answers_of len) (readers_of_bank new) (added'.reader ∷ []))

  whole_turn : IsTurnOf 9 b n heard.gaps.items heard.ended
  whole_turn =
      subst (λ t. IsTurnOf 9 t n heard.gaps.items heard.ended) b_is
      (subst (λ t. IsTurnOf 9 (answers_of_bank len old ++ answers_of len added.reader ∷ []) t heard.gaps.items
      heard.ended) n_is
      (subst (λ g. IsTurnOf 9 (answers_of_bank len old ++ answers_of len added.reader ∷ [])
      (answers_of_bank len new ++ answers_of len added'.reader ∷ []) g heard.ended) (sym told)
      (subst (IsTurnOf 9 (answers_of_bank len old ++ answers_of len added.reader ∷ [])
      (answers_of_bank len new ++ answers_of len added'.reader ∷ []) (gaps ++ turn.gaps.items)) (sym over)
      (turn_nine (answers_of_bank len old) (answers_of_bank len new) (answers_of len added.reader)
      (answers_of len added'.reader) made.answers gaps turn.gaps.items ended turn.ended first
      (answers_more len added added' turn made) made.reading made.on.gaps made.met))))

  module _ (h : Hears len (held_of old (Some added) was false)) where
    others : AddedListens len added'
    others = listens_more len added added' turn made h.added

    adds : AreAddedSince (answers_of len added.reader) (answers_of len added'.reader) turn.items.items
    adds = since len added added' turn made h.added comes

    there : position ≡ position_after (answers_of len added'.reader)
    there = here ∙ sym (leads_position (answers_of len added'.reader) (position_of added'.reader) others.lead)

    many_before : length (answers_of_bank len old) ≡ 8
    many_before = length-map (readers_of_bank old) (answers_of len) ∙ many_old

    many_now : length (answers_of_bank len new) ≡ 8
    many_now = length-map (readers_of_bank new) (answers_of len) ∙ many

    brought : BringsByAll b n positions position candidates turn.items.items
    brought =
        subst (λ t. BringsByAll t n positions position candidates turn.items.items) b_is
        (subst (λ t. BringsByAll (answers_of_bank len old ++ answers_of len added.reader ∷ []) t positions position
        candidates turn.items.items) n_is
        (brings_nine (answers_of_bank len old) (answers_of_bank len new) (answers_of len added.reader)
        (answers_of len added'.reader) positions position candidates turn.items.items
        many_before many_now (brings h.eight) adds there))

    merged : HasMergedBy true was b
    unfolding b
    merged = h.merged

    all_due : AreDueBy true heard.ended b n heard.items.items
    all_due = due_of true heard.ended b n heard.items.items (λ e. (merges e b n merged brought).1)
        (λ e. rests e b n merged brought)

    all_lowest : heard.least ≡ least_position n
    all_lowest =
        lowest ∙ ap (λ p. min (least p) position) (brings h.eight).stand
        ∙ ap (min (least_position (answers_of_bank len new))) there
        ∙ sym (least_nine (answers_of_bank len new) (answers_of len added'.reader)) ∙ ap least_position n_is

    rises : least_position b ≤ least_position n
    rises =
        let eight = least_rises (answers_of_bank len old) (answers_of_bank len new) positions candidates
        (brings h.eight) in
        let one = adds.forward in
        let before : least_position b
        ≡ min (least_position (answers_of_bank len old)) (position_after (answers_of len added.reader))
        = ap least_position (sym b_is) ∙ least_nine (answers_of_bank len old) (answers_of len added.reader) in
        let after : least_position n
        ≡ min (least_position (answers_of_bank len new)) (position_after (answers_of len added'.reader))
        = ap least_position (sym n_is) ∙ least_nine (answers_of_bank len new) (answers_of len added'.reader) in
        omega arith

    hears : heard.ended ≡ false → Hears len (held_of new (Some added') now false)
    unfolding n
    hears e = record {
      spent = refl;
      eight = listens h.eight;
      added = others;
      merged = (merges e b n merged brought).0;
    }

  pub all_turn : MakesTurn len (held_of old (Some added) was false) (held_of new (Some added') now false) heard
  unfolding b n
  all_turn = record {
    turn = whole_turn;
    listens = listens;
    due = λ h. all_due h;
    lengths = λ h. due_lengths true heard.ended b n heard.items.items (all_due h);
    hears = λ e h. hears h e;
    least = λ h. all_lowest h;
    forward = λ h. let up = rises h in let low = all_lowest h in
        subst (λ p. least_position b ≤ p) (sym low) up;
    step = λ e. record {
      read = at;
      room = room;
      marks = marks e ∙ ap (λ p. p ++ replicate 18 (position - 32)) stand
          ∙ ap (λ p. positions_of_bank new ++ replicate 18 (p - 32)) here;
    };
  }

-- ---- the marks before a turn

pub marks_many : (old : HeldRingBank) (added : AddedRing) (was : HeldMerger) → length (readers_of_bank old) ≡ 8
    → AreInStep old (Some added) was → length was.marks ≡ 26
marks_many old added was many step =
    let size = length-map (readers_of_bank old) position_of in
    let all = length-append (positions_of_bank old) (replicate 18 (position_of added.reader - 32)) in
    ap length step.marks ∙ (let e : length (positions_of_bank old ++ replicate 18 (position_of added.reader - 32)) ≡ 26
    = omega arith in e)

pub marks_eight : (old : HeldRingBank) (added : AddedRing) (was : HeldMerger) (positions : List ℕ)
    → length (readers_of_bank old) ≡ 8 → AreInStep old (Some added) was
    → ((lane : ℕ) → lane < 8 → get_or (positions_of_bank old) lane 0 ≤ get_or positions lane 0)
    → (lane : ℕ) → lane < 8 → get_or was.marks lane 0 ≤ get_or positions lane 0
marks_eight old added was positions many step forward lane l =
    let size = length-map (readers_of_bank old) position_of in
    subst (λ (m : List ℕ). get_or m lane 0 ≤ get_or positions lane 0) (sym step.marks)
    (subst (λ p. p ≤ get_or positions lane 0)
    (sym (get_or_append_left (positions_of_bank old) (replicate 18 (position_of added.reader - 32)) 0 lane
    (omega arith))) (forward lane l))

pub marks_added : (old : HeldRingBank) (added : AddedRing) (was : HeldMerger) (position : ℕ)
    → length (readers_of_bank old) ≡ 8 → AreInStep old (Some added) was → position_of added.reader ≤ position
    → (lane : ℕ) → 8 ≤ lane → lane < 26 → get_or was.marks lane 0 ≤ position - 32
marks_added old added was position many step forward lane low most =
    let size = length-map (readers_of_bank old) position_of in
    let mark : ℕ = position_of added.reader - 32 in
    let at : lane ≡ length (positions_of_bank old) + (lane - 8) = omega arith in
    let is : get_or was.marks lane 0 ≡ mark
    = ap (λ (m : List ℕ). get_or m lane 0) step.marks
    ∙ ap (λ i. get_or (positions_of_bank old ++ replicate 18 mark) i 0) at
    ∙ get_or-append-add (positions_of_bank old) (replicate 18 mark) (lane - 8) 0
    ∙ get_or-replicate 18 (lane - 8) mark 0 (omega arith) in
    omega arith

-- ---- what a turn brings is not late

pub eight_in_time : (old : HeldRingBank) (was : HeldMerger) (items : List Candidate) → AreInStep old None was
    → ArePast (positions_of_bank old) items → AreInTime was.marks items
eight_in_time old was items step past = λ k d l.
    let is = past k d l in
    subst (λ (m : List ℕ). get_or m (get_or items k d).offset 0 ≤ (get_or items k d).end) (sym step.marks) (omega arith)

pub eight_in_time_of_all : (old : HeldRingBank) (added : AddedRing) (was : HeldMerger) (items : List Candidate)
    → length (readers_of_bank old) ≡ 8 → AreInStep old (Some added) was → All CanBePutOfEight items
    → ArePast (positions_of_bank old) items → AreInTime was.marks items
eight_in_time_of_all old added was items many step can past = λ k d l.
    let item : Candidate = get_or items k d in
    let size = length-map (readers_of_bank old) position_of in
    let is = past k d l in
    let lane = (can k d l).lane in
    let here : get_or was.marks item.offset 0 ≡ get_or (positions_of_bank old) item.offset 0 =
    ap (λ (m : List ℕ). get_or m item.offset 0) step.marks
    ∙ get_or_append_left (positions_of_bank old) (replicate 18 (position_of added.reader - 32)) 0 item.offset
    (omega arith) in
    omega arith

pub added_can : (low : ℕ) (items : List Candidate) → All (CanBePutFrom low) items → All CanBePut items
added_can low items h k d l = (h k d l).can

pub added_in_time : (old : HeldRingBank) (added : AddedRing) (was : HeldMerger) (items : List Candidate)
    → length (readers_of_bank old) ≡ 8 → AreInStep old (Some added) was
    → All (CanBePutFrom (position_of added.reader - 32)) items → AreInTime was.marks items
added_in_time old added was items many step comes = λ k d l.
    let item : Candidate = get_or items k d in
    let end = (comes k d l).from.end in
    let size = length-map (readers_of_bank old) position_of in
    let low = (comes k d l).from.lane in
    let most = (comes k d l).can.lane in
    let mark : ℕ = position_of added.reader - 32 in
    let at : item.offset ≡ length (positions_of_bank old) + (item.offset - 8) = omega arith in
    let is : get_or was.marks item.offset 0 ≡ mark
    = ap (λ (m : List ℕ). get_or m item.offset 0) step.marks
    ∙ ap (λ i. get_or (positions_of_bank old ++ replicate 18 mark) i 0) at
    ∙ get_or-append-add (positions_of_bank old) (replicate 18 mark) (item.offset - 8) 0
    ∙ get_or-replicate 18 (item.offset - 8) mark 0 (omega arith) in
    omega arith
