-- A turn of eight lanes: what each of them made of it is what all of them made.
use Rattle.slicer_bank.proofs.Common.{◌≡◌, ℕ, zero, suc, ◌+◌, ◌-◌, ◌*◌, ◌/◌, ◌%◌, ◌^◌, ◌<◌, ◌≤◌, List, [], ◌∷◌, ◌++◌}
use Rattle.slicer_bank.proofs.Common.{⊎_elim, inl, inr, Bool, true, false, ◌&&◌, refl, ap, sym, ◌∙◌, arith, subst}
use Rattle.slicer_bank.proofs.Common.{length, get_or, map, take, drop, All, flat_map, list_all, IsPermutation}
use Rattle.slicer_bank.proofs.Common.{IsNonDecreasingBy, cases_lt, false≢true, length-map, get_or-map, get_or_default}
use Rattle.slicer_bank.proofs.Common.{map-append, get_or_append_left, length_push, All-nil, All-head, All-tail}
use Rattle.slicer_bank.proofs.Common.{Contains-permutation, All-permutation, get_or-append_seam, take-append_seam}
use Rattle.slicer_bank.proofs.Common.{Got, Reader, position_of, reads_of, reader_ring, record_of, answer}
use Rattle.slicer_bank.proofs.Common.{Candidate, LaneGap, RingLane, IsHeardIn, IsHeardOnRing, lane_of, lane_positions}
use Rattle.slicer_bank.proofs.Common.{CanBePut, MadeTurn, IsAlike, AreHeardPast, IsTaken, AreInPlace, LanesAreReady}
use Rattle.slicer_bank.proofs.Common.{answers_of, answers_by, readers_of, LaneListens, LanesListen, MeetsEnd, gaps_of}
use Rattle.slicer_bank.proofs.Common.{AreGrown, IsTurn, Leads, BringsOnRing, AreForward, StretchStandsFor}
use Rattle.slicer_bank.proofs.Common.{position_after, last_stretch}
use Rattle.std.proofs.Common.{◌↔◌}
use Rattle.atomic_table.specs.Seated.{TableId}
use Rattle.sample_ring.specs.declared.view.Track.{Track}
use Rattle.slicer_bank.specs.HeardOnRing.{AreHeardSince}
use Rattle.slicer_bank.specs.RingJobs.{Advanced, LanesStay}
use Rattle.slicer_bank.specs.RingTurns.{IsReading, gaps_from, AreLonger}
use Rattle.slicer_bank.proofs.GatheringLemmas.{IsOfLane, flat_all, flat_contains, same_list, some_of, stands_in_order}
use Rattle.slicer_bank.proofs.RingGatheringLemmas.{found_by, gaps_by, ended_by}
use Rattle.slicer_bank.proofs.StretchLemmas.{heard_within, heard_shorter, leads_up, leads_below, leads_position}
use Rattle.slicer_bank.specs.declared.detection.Detection.{Detection}
use Rattle.slicer_bank.specs.StretchLanes.{ListensAs}

-- ---- lists

-- one choice for each of so many places
choose : {X : Type 0} (P : ℕ → X → Type 0) (d : X) (n : ℕ) → ((k : ℕ) → k < n → (x : X) × P k x)
    → (xs : List X) × (length xs ≡ n) × ((k : ℕ) → k < n → P k (get_or xs k d))
choose P d zero f = ([], refl, λ k l. absurd (omega arith))
choose P d (suc n) f =
    let before = choose P d n (λ k l. f k (omega arith)) in
    let last = f n (omega arith) in
    let count = before.1 in (
      before.0 ++ last.0 ∷ [],
      length_push before.0 last.0 ∙ (let e : length before.0 + 1 ≡ suc n = omega arith in e),
      λ k l. elim (cases_lt k n) [
        | inl lt ↦ subst (P k) (sym (get_or_append_left before.0 (last.0 ∷ []) d k (omega arith))) (before.2 k lt)
        | inr ge ↦
            let e : k ≡ n = omega arith in
            let at : get_or (before.0 ++ last.0 ∷ []) k d ≡ last.0 =
            ap (λ i. get_or (before.0 ++ last.0 ∷ []) i d) (e ∙ sym count)
            ∙ get_or-append_seam before.0 last.0 [] d in
            subst (P k) (sym at) (subst (λ i. P i last.0) (sym e) last.1)
      ],
    )

-- the gaps of lanes, told lane by lane
flat_gaps : (first : ℕ) (lanes : List RingLane) (reads : List (List Got)) → length reads ≡ length lanes
    → ((k : ℕ) (d : RingLane) → k < length lanes → gaps_by (get_or lanes k d) ≡ gaps_of (first + k) (get_or reads k []))
    → flat_map gaps_by lanes ≡ gaps_from first reads
flat_gaps first [] [] e h = refl
flat_gaps first [] (r ∷ reads) e h = absurd (omega arith)
flat_gaps first (x ∷ lanes) [] e h = absurd (omega arith)
flat_gaps first (x ∷ lanes) (r ∷ reads) e h =
    ap (λ g. g ++ flat_map gaps_by lanes) (h 0 x (omega arith)
    ∙ ap (λ i. gaps_of i r) (let z : first + 0 ≡ first = omega arith in z))
    ∙ ap (λ g. gaps_of first r ++ g)
    (flat_gaps (first + 1) lanes reads (omega arith)
    (λ k d l. h (suc k) d (omega arith) ∙ ap (λ i. gaps_of i (get_or reads k []))
    (let z : first + suc k ≡ first + 1 + k = omega arith in z)))

-- all have ended exactly if each has met the end
all_ended : (lanes : List RingLane) (reads : List (List Got)) → length reads ≡ length lanes
    → ((k : ℕ) (d : RingLane) → k < length lanes → (ended_by (get_or lanes k d) ≡ true) ↔ MeetsEnd (get_or reads k []))
    → (list_all ended_by lanes ≡ true) ↔ All MeetsEnd reads
all_ended [] [] e h = (λ t. All-nil MeetsEnd, λ a. refl)
all_ended [] (r ∷ reads) e h = absurd (omega arith)
all_ended (x ∷ lanes) [] e h = absurd (omega arith)
all_ended (x ∷ lanes) (r ∷ reads) e h =
    let first = h 0 x (omega arith) in
    let rest = all_ended lanes reads (omega arith) (λ k d l. h (suc k) d (omega arith)) in (
      λ t. both (rest.0 (right x.ended (list_all ended_by lanes) t))
          (first.0 (left x.ended (list_all ended_by lanes) t)),
      λ a. ap (λ b. b && list_all ended_by lanes) (first.1 (All-head MeetsEnd r reads a))
          ∙ rest.1 (All-tail MeetsEnd r reads a),
    )
  where
    left : (a b : Bool) → (a && b) ≡ true → a ≡ true
    left true b e = refl
    left false b e = absurd (false≢true e)

    right : (a b : Bool) → (a && b) ≡ true → b ≡ true
    right true b e = e
    right false b e = absurd (false≢true e)

    both : All MeetsEnd reads → MeetsEnd r → All MeetsEnd (r ∷ reads)
    both a m zero d l = m
    both a m (suc k) d l = a k d (omega arith)

-- what is heard in a stretch ends with a window of its offset
at_window : (answers : List Got) (item : Candidate) → item.offset < 8 → IsHeardIn answers item
    → (windows : ℕ) × (item.end ≡ item.offset + 8 * windows)
at_window answers item small h =
    let begin : ℕ = h.stretch.begin in
    let offset : ℕ = item.offset in
    let end = h.ends.end_of in
    ((begin + (8 + offset - begin % 8) % 8) / 8 + (h.index + 1), omega arith)

-- ---- lanes and their readers

reader_at : (lanes : List RingLane) (k : ℕ) (d : RingLane) (e : Reader) → k < length lanes
    → get_or (readers_of lanes) k e ≡ (get_or lanes k d).reader
reader_at lanes k d e l = get_or-map (λ lane. lane.reader) lanes k d e l

pub position_at : (lanes : List RingLane) (k : ℕ) (d : RingLane) → k < length lanes
    → get_or (map position_of (readers_of lanes)) k 0 ≡ position_of (get_or lanes k d).reader
position_at lanes k d l =
    get_or-map position_of (readers_of lanes) k d.reader 0 (let n = length-map lanes (λ lane. lane.reader) in
    omega arith) ∙ ap position_of (reader_at lanes k d d.reader l)

pub answers_at : (len : ℕ) (lanes : List RingLane) (k : ℕ) (d : RingLane) → k < length lanes
    → lane_of (answers_by len lanes) k ≡ answers_of len (get_or lanes k d).reader
answers_at len lanes k d l =
    get_or-map (answers_of len) (readers_of lanes) k d.reader [] (let n = length-map lanes (λ lane. lane.reader) in
    omega arith) ∙ ap (answers_of len) (reader_at lanes k d d.reader l)

record_at : (lanes : List RingLane) (k : ℕ) (d : RingLane) (t : Track) → k < length lanes
    → get_or (map record_of (readers_of lanes)) k t ≡ record_of (get_or lanes k d).reader
record_at lanes k d t l =
    get_or-map record_of (readers_of lanes) k d.reader t (let n = length-map lanes (λ lane. lane.reader) in omega arith)
    ∙ ap record_of (reader_at lanes k d d.reader l)

count_answers : (len : ℕ) (lanes : List RingLane) → length (answers_by len lanes) ≡ length lanes
count_answers len lanes = length-map (readers_of lanes) (answers_of len) ∙ length-map lanes (λ lane. lane.reader)

count_positions : (lanes : List RingLane) → length (map position_of (readers_of lanes)) ≡ length lanes
count_positions lanes = length-map (readers_of lanes) position_of ∙ length-map lanes (λ lane. lane.reader)

-- the lanes of a bank are ready for a turn
pub are_ready : (ring : TableId) (lanes : List RingLane) → length lanes ≡ 8 → AreInPlace lanes → All IsTaken lanes
    → All (λ reader. reader_ring reader ≡ ring) (readers_of lanes) → LanesAreReady ring lanes
are_ready ring lanes eight place taken rings k d l =
    let n = length-map lanes (λ lane. lane.reader) in
    let inside : k < length (readers_of lanes) = omega arith in
    record {
      same_ring = sym (ap (λ (r : Reader). reader_ring r) (reader_at lanes k d d.reader (omega arith)))
          ∙ rings k d.reader inside;
      place = place k d l;
      taken = taken k d (omega arith);
    }

pub rings_stay : (ring : TableId) (lanes : List RingLane) → length lanes ≡ 8 → LanesStay ring lanes
    → All (λ reader. reader_ring reader ≡ ring) (readers_of lanes)
rings_stay ring lanes eight stay k e l =
    let n = length-map lanes (λ lane. lane.reader) in
    let d : RingLane = some_of lanes (omega arith) in
    ap (λ (r : Reader). reader_ring r) (reader_at lanes k d e (omega arith)) ∙ (stay k d (omega arith)).0

-- lanes that were lent come back as they were left
pub lent_back : (n : ℕ) (new old : List RingLane) → n ≡ length new → take n (new ++ drop (length new) old) ≡ new
lent_back n new old full = ap (λ k. take k (new ++ drop (length new) old)) full
    ∙ take-append_seam new (drop (length new) old)

-- ---- the turn: lanes before it, after each has read, and after what they found was taken

module _ (ring : TableId) (len : ℕ) (old mid new : List RingLane) (eight_old : length old ≡ 8)
    (eight_mid : length mid ≡ 8) (eight_new : length new ≡ 8)
    (ready : LanesAreReady ring old)
    (advanced : (k : ℕ) (d : RingLane) → k < 8 → Advanced len (get_or old k d) (get_or mid k d))
    (alike : (k : ℕ) (d : RingLane) → k < 8 → IsAlike (get_or mid k d) (get_or new k d)) where
  d0 : RingLane
  d0 = some_of old (omega arith)

  pub lanes_stay : LanesStay ring new
  lanes_stay k d l =
      let a = advanced k d l in
      let b = alike k d l in
      let r = ready k d l in (
        ap (λ (x : Reader). reader_ring x) b.reader ∙ a.stays.ring ∙ r.same_ring,
        ap (λ x. x.offset) b.lane
            ∙ a.stays.offset ∙ r.place,
      )

  pub lanes_ready : All IsTaken new → LanesAreReady ring new
  lanes_ready taken k d l = record {
    same_ring = (lanes_stay k d l).0;
    place = (lanes_stay k d l).1;
    taken = taken k d (omega arith);
  }

  pub are_grown : AreGrown (map record_of (readers_of old)) (map record_of (readers_of new))
  are_grown k t l =
      let a = advanced k d0 l in
      let b = alike k d0 l in
      let at_old : get_or (map record_of (readers_of old)) k t ≡ record_of (get_or old k d0).reader =
      record_at old k d0 t (omega arith) in
      let at_new : get_or (map record_of (readers_of new)) k t ≡ record_of (get_or new k d0).reader =
      record_at new k d0 t (omega arith) in (
        a.entries,
        ap (λ (x : Track). x.reads) at_new ∙ ap (λ (x : Reader). reads_of x) b.reader ∙ a.grown
            ∙ ap (λ (x : Track). x.reads ++ a.entries) (sym at_old),
      )

  module _ (spent : All (λ lane. lane.spent ≡ false) mid) where
    made : (k : ℕ) (d : RingLane) → k < 8 → MadeTurn len (get_or old k d) (get_or mid k d)
    made k d l = (advanced k d l).made (spent k d (omega arith))

    answers_now : (k : ℕ) (l : k < 8) → answers_of len (get_or new k d0).reader
        ≡ answers_of len (get_or old k d0).reader ++ (made k d0 l).answers
    answers_now k l =
        let on = (made k d0 l).on in
        ap (answers_of len) (alike k d0 l).reader ∙ ap (map (answer len)) on.read
        ∙ map-append (answer len) (reads_of (get_or old k d0).reader) on.entries
        ∙ ap (λ a. answers_of len (get_or old k d0).reader ++ a) (sym on.are)

    -- what is so of the reads of a lane
    record OfLane (k : ℕ) (a : List Got) : Type 0 where
      within : k < 8
      longer : lane_of (answers_by len new) k ≡ lane_of (answers_by len old) k ++ a
      reading : IsReading a
      gaps : (d : RingLane) → gaps_by (get_or mid k d) ≡ gaps_of k a
      met : (d : RingLane) → (ended_by (get_or mid k d) ≡ true) ↔ MeetsEnd a

    of_lane : (k : ℕ) → k < 8 → (a : List Got) × OfLane k a
    of_lane k l =
        let m = made k d0 l in (
          m.answers,
          record {
            within = l;
            longer = answers_at len new k d0 (omega arith) ∙ answers_now k l
                ∙ ap (λ a. a ++ m.answers) (sym (answers_at len old k d0 (omega arith)));
            reading = m.reading;
            gaps = λ d. ap gaps_by (get_or_default mid k d d0 (omega arith)) ∙ m.on.gaps
                ∙ ap (λ o. gaps_of o m.answers) (ready k d0 l).place;
            met = λ d. subst (λ (b : Bool). (b ≡ true) ↔ MeetsEnd m.answers)
                (ap ended_by (get_or_default mid k d0 d (omega arith))) m.met;
          },
        )

    chosen : (reads : List (List Got)) × (length reads ≡ 8) × ((k : ℕ) → k < 8 → OfLane k (get_or reads k []))
    chosen = choose OfLane [] 8 of_lane

    longer : AreLonger (answers_by len old) chosen.0 (answers_by len new)
    longer = record {
      eight_before = count_answers len old ∙ eight_old;
      eight_reads = chosen.1;
      eight_now = count_answers len new ∙ eight_new;
      each = λ lane l. (chosen.2 lane l).longer;
    }

    pub is_turn : (gaps : List LaneGap) (ended : Bool) → gaps ≡ flat_map gaps_by mid → ended ≡ list_all ended_by mid
        → IsTurn (answers_by len old) (answers_by len new) gaps ended
    is_turn gaps ended told over =
        let eight = chosen.1 in
        record {
          reads = chosen.0;
          longer = longer;
          readings = λ k d l. subst IsReading (at_lists chosen.0 k d l) (chosen.2 k (omega arith)).reading;
          told = told ∙ flat_gaps 0 mid chosen.0 (omega arith) (λ k d l. (chosen.2 k (omega arith)).gaps d
              ∙ ap (λ i. gaps_of i (get_or chosen.0 k [])) (let z : k ≡ 0 + k = omega arith in z));
          over = subst (λ (b : Bool). (b ≡ true) ↔ All MeetsEnd chosen.0) (sym over)
              (all_ended mid chosen.0 (omega arith) (λ k d l. (chosen.2 k (omega arith)).met d));
        }
      where
        at_lists : (xs : List (List Got)) (k : ℕ) (d : List Got) → k < length xs → get_or xs k [] ≡ get_or xs k d
        at_lists [] k d l = absurd (omega arith)
        at_lists (x ∷ xs) zero d l = refl
        at_lists (x ∷ xs) (suc k) d l = at_lists xs k d (omega arith)

    pub lanes_listen : (detection : Detection) → LanesListen len detection old → LanesListen len detection new
    lanes_listen detection h k d l =
        let before = h k d l in
        let m = made k d l in
        let now = (m.on.heard detection
        (subst (λ o. LaneListens len detection o (get_or old k d)) (sym before.place) before)).0 in
        let b = alike k d l in
        listens_alike k (get_or mid k d) (get_or new k d) b
        (subst (λ o. LaneListens len detection o (get_or mid k d)) before.place now)
      where
        listens_alike : (k : ℕ) (x y : RingLane) → IsAlike x y → LaneListens len detection k x
            → LaneListens len detection k y
        listens_alike k x y b h = record {
          place = ap (λ z. z.offset) b.lane ∙ h.place;
          asked = subst (ListensAs detection) (sym b.lane) h.asked;
          lead = subst (λ (r : Reader). Leads 0 (answers_of len r) (position_of r)) (sym b.reader) h.lead;
          stands = subst (λ z. StretchStandsFor z (last_stretch (answers_of len y.reader))) (sym b.lane)
              (subst (λ (r : Reader). StretchStandsFor x.lane (last_stretch (answers_of len r))) (sym b.reader)
              h.stands);
        }

    pub stand_there : (positions : List ℕ) → positions ≡ map (λ lane. position_of lane.reader) mid
        → positions ≡ map position_of (readers_of new)
    stand_there positions is =
        is ∙ same_list (map (λ lane. position_of lane.reader) mid) (map position_of (readers_of new))
        (length-map mid (λ lane. position_of lane.reader) ∙ eight_mid ∙ sym (count_positions new ∙ eight_new))
        (λ k l.
        let n = length-map mid (λ lane. position_of lane.reader) in
        let in8 : k < 8 = omega arith in
        get_or-map (λ lane. position_of lane.reader) mid k d0 0 (omega arith)
        ∙ ap (λ (r : Reader). position_of r) (sym (alike k d0 in8).reader)
        ∙ sym (position_at new k d0 (omega arith)))

    pub are_forward : AreForward (map position_of (readers_of old)) (map position_of (readers_of new))
    are_forward k l =
        let m = made k d0 l in
        let up = leads_up (position_of (get_or old k d0).reader) m.answers (position_of (get_or mid k d0).reader)
        m.on.forward in
        let at_old = position_at old k d0 (omega arith) in
        let at_new : get_or (map position_of (readers_of new)) k 0 ≡ position_of (get_or mid k d0).reader =
        position_at new k d0 (omega arith) ∙ ap (λ (r : Reader). position_of r) (alike k d0 l).reader in
        omega arith

    -- ---- what they heard

    of_place : (k : ℕ) (d : RingLane) → k < length mid
        → All (λ item. (item.offset ≡ k) × (position_of (get_or old k d0).reader < item.end)
        × (item.end ≤ position_of (get_or mid k d0).reader)) (found_by (get_or mid k d))
    of_place k d l =
        let in8 : k < 8 = omega arith in
        let m = made k d0 in8 in
        subst (λ (x : RingLane). All (λ item. (item.offset ≡ k) × (position_of (get_or old k d0).reader < item.end)
        × (item.end ≤ position_of (get_or mid k d0).reader)) (found_by x)) (get_or_default mid k d0 d l)
        (λ i e il. let p = m.on.places.each i e il in (p.0 ∙ (ready k d0 in8).place, p.1, p.2))

    pub are_past : All (λ item. get_or (map position_of (readers_of old)) item.offset 0 < item.end)
        (flat_map found_by mid)
    are_past =
        let P : Candidate → Type 0 = λ item. get_or (map position_of (readers_of old)) item.offset 0 < item.end in
        flat_all P found_by mid (λ k d l i e il.
        let p = of_place k d l i e il in
        let at : get_or (map position_of (readers_of old)) (get_or (found_by (get_or mid k d)) i e).offset 0
        ≡ position_of (get_or old k d0).reader
        = ap (λ o. get_or (map position_of (readers_of old)) o 0) p.0 ∙ position_at old k d0 (omega arith) in
        let past = p.1 in
        omega arith)

    pub can_be_put : All CanBePut (flat_map found_by mid)
    can_be_put = flat_all CanBePut found_by mid (λ k d l i e il.
        let p = of_place k d l i e il in
        let o = p.0 in
        let past = p.1 in
        let up_to = p.2 in
        let in8 : k < 8 = omega arith in
        let m = made k d0 in8 in
        record {
          lane = omega arith;
          end = ⊎_elim (λ (same : position_of (get_or old k d0).reader ≡ position_of (get_or mid k d0).reader). absurd
              (omega arith)) (λ (below : position_of (get_or mid k d0).reader < 2 ^ 48). omega arith)
              (leads_below (position_of (get_or old k d0).reader) m.answers (position_of (get_or mid k d0).reader)
              m.on.forward);
        })

    module _ (detection : Detection) (h : LanesListen len detection old) where
      before : (k : ℕ) (l : k < 8) → LaneListens len detection k (get_or old k d0)
      before k l = h k d0 l

      heard_at : (k : ℕ) (l : k < 8) → AreHeardPast k (position_of (get_or old k d0).reader)
          (lane_of (answers_by len new) k) (found_by (get_or mid k d0))
      heard_at k l =
          let m = made k d0 l in
          let b = before k l in
          let now = (m.on.heard detection
          (subst (λ o. LaneListens len detection o (get_or old k d0)) (sym b.place) b)).1 in
          let at : answers_of len (get_or mid k d0).reader ≡ lane_of (answers_by len new) k =
          ap (answers_of len) (sym (alike k d0 l).reader) ∙ sym (answers_at len new k d0 (omega arith)) in
          subst (λ a. AreHeardPast k (position_of (get_or old k d0).reader) a (found_by (get_or mid k d0))) at
          (subst (λ o. AreHeardPast o (position_of (get_or old k d0).reader) (answers_of len (get_or mid k d0).reader)
          (found_by (get_or mid k d0))) b.place now)

      old_lead : (k : ℕ) (l : k < 8) → Leads 0 (lane_of (answers_by len old) k) (position_of (get_or old k d0).reader)
      old_lead k l = subst (λ a. Leads 0 a (position_of (get_or old k d0).reader))
          (sym (answers_at len old k d0 (omega arith))) (before k l).lead

      new_lead : (k : ℕ) (l : k < 8) → Leads 0 (lane_of (answers_by len new) k) (position_of (get_or new k d0).reader)
      new_lead k l = subst (λ a. Leads 0 a (position_of (get_or new k d0).reader))
          (sym (answers_at len new k d0 (omega arith))) (lanes_listen detection h k d0 l).lead

      -- an item that ends past the old position of its lane was not heard before
      not_before : (item : Candidate) (k : ℕ) (l : k < 8) → item.offset ≡ k
          → position_of (get_or old k d0).reader < item.end → IsHeardOnRing (answers_by len old) item → ⊥
      not_before item k l o past was =
          let le = heard_within (lane_of (answers_by len old) k) (position_of (get_or old k d0).reader) item
          (old_lead k l) (subst (λ i. IsHeardIn (lane_of (answers_by len old) i) item) o was.heard) in
          omega arith

      -- and one that was not heard before ends past it
      is_past : (item : Candidate) → IsHeardOnRing (answers_by len new) item
          → (¬ IsHeardOnRing (answers_by len old) item) → (l : item.offset < 8)
          → position_of (get_or old item.offset d0).reader < item.end
      is_past item now not l =
          elim (cases_lt (position_of (get_or old item.offset d0).reader) item.end) [
            | inl lt ↦ lt
            | inr le ↦
                let k : ℕ = item.offset in
                let m = made k d0 l in
                let longer : lane_of (answers_by len new) k ≡ lane_of (answers_by len old) k ++ m.answers
                = answers_at len new k d0 (omega arith) ∙ answers_now k l
                ∙ ap (λ a. a ++ m.answers) (sym (answers_at len old k d0 (omega arith))) in
                absurd (not record {
                  offset = l;
                  heard = heard_shorter (lane_of (answers_by len old) k) m.answers
                      (position_of (get_or old k d0).reader) (position_of (get_or mid k d0).reader) item (old_lead k l)
                      m.on.forward
                      (subst (λ a. IsHeardIn a item) longer now.heard) le;
                })
          ]

      -- a lane hears at the ends of its windows
      of_windows : (k : ℕ) (d : RingLane) → k < 8 → IsOfLane k (found_by (get_or mid k d))
      of_windows k d l =
          subst (λ (x : RingLane). IsOfLane k (found_by x)) (get_or_default mid k d0 d (omega arith))
          record {
            each = λ i e il.
                let place = (of_place k d0 (omega arith) i e il).0 in
                let ends = at_window (lane_of (answers_by len new) k) (get_or (found_by (get_or mid k d0)) i e)
                (omega arith) ((heard_at k l).each i e il) in (
                  place,
                  (ends.0, ends.1 ∙ ap (λ o. o + 8 * ends.0) place),
                );
            rising = (made k d0 l).on.places.rising;
          }

      heard_since : (items : List Candidate) → IsPermutation (flat_map found_by mid) items
          → IsNonDecreasingBy (λ item. item.end) items → AreHeardSince (answers_by len old) (answers_by len new) items
      heard_since items moved rises =
          let P : Candidate → Type 0 = λ item. IsHeardOnRing (answers_by len new) item
          × (¬ IsHeardOnRing (answers_by len old) item) in
          record {
            each = All-permutation P (flat_map found_by mid) items moved (flat_all P found_by mid (λ k d l.
                let in8 : k < 8 = omega arith in
                subst (λ (x : RingLane). All P (found_by x)) (get_or_default mid k d0 d l) (λ i e il.
                let p = of_place k d0 l i e il in
                let item : Candidate = get_or (found_by (get_or mid k d0)) i e in (
                  record {
                    offset = (let o = p.0 in let z : item.offset < 8 = omega arith in z);
                    heard = subst (λ o. IsHeardIn (lane_of (answers_by len new) o) item) (sym p.0)
                        ((heard_at k in8).each i e il);
                  },
                  not_before item k in8 p.0 p.1,
                ))));
            whole = λ item now not.
                let l = now.offset in
                Contains-permutation (flat_map found_by mid) items item moved
                (flat_contains found_by mid item.offset d0 item (omega arith)
                ((heard_at item.offset l).whole item refl now.heard (is_past item now not l)));
            order = stands_in_order found_by mid items eight_mid of_windows moved rises;
          }

      positions_lead : map position_of (readers_of new) ≡ lane_positions (answers_by len new)
      positions_lead =
          same_list (map position_of (readers_of new)) (lane_positions (answers_by len new)) (count_positions new
          ∙ sym (length-map (answers_by len new) position_after ∙ count_answers len new))
          (λ k l.
          let n = count_positions new in
          let m = count_answers len new in
          let in8 : k < 8 = omega arith in
          position_at new k d0 (omega arith)
          ∙ sym (leads_position (lane_of (answers_by len new) k) (position_of (get_or new k d0).reader)
          (new_lead k in8))
          ∙ sym (get_or-map position_after (answers_by len new) k [] 0 (omega arith)))

      pub brings : (positions : List ℕ) (items : List Candidate) → positions ≡ map (λ lane. position_of lane.reader) mid
          → IsPermutation (flat_map found_by mid) items
          → IsNonDecreasingBy (λ item. item.end) items → BringsOnRing (answers_by len old) (answers_by len new)
          positions items
      brings positions items stand moved rises = record {
        reads = chosen.0;
        longer = longer;
        lead = λ lane l. (position_of (get_or new lane d0).reader, new_lead lane l);
        stand = stand_there positions stand ∙ positions_lead;
        heard = heard_since items moved rises;
      }
