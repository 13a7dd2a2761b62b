-- Samples have a list of candidates: it is found place by place and lane by lane.
use Rattle.sensitive_receiver.proofs.Common.{◌≡◌, ℕ, zero, suc, ◌+◌, ◌-◌, ◌<◌, ◌≤◌, Bool, true, false, ℤ, List, [], ◌∷◌}
use Rattle.sensitive_receiver.proofs.Common.{◌++◌, length, refl, sym, subst, ◌∙◌, arith, inl, inr, true≢false}
use Rattle.sensitive_receiver.proofs.Common.{EndsFrame, Candidate, added_places, delay_of, is_read_at, lane_bits}
use Rattle.sensitive_receiver.proofs.Common.{EndsAtPlace, HasPath, is_in_time, AreHeard, AddsAt, cases_lt}
use Rattle.hdlc_framer.proofs.FrameEnds.{one_frame}
use Rattle.slicer_bank.proofs.FrameDecided.{frame_or_none}
use Rattle.slicer_bank.proofs.SomeList.{some_list as some_of_eight}
use Rattle.sensitive_receiver.specs.Found.{AddsWhere}
use Rattle.sensitive_receiver.proofs.FoundLemmas.{adds_join, adds_none, adds_one}
use Rattle.sensitive_receiver.proofs.HeardLemmas.{all_of, heard_join, none_heard}
use Rattle.sensitive_receiver.proofs.PathDecided.{path_or_none}

module _ (x : List ℤ) (place lane : ℕ) (least : 8 ≤ lane) (most : lane < 26) (before : List Candidate) where
  abbrev Adds : Type 0
  Adds = (after : List Candidate) × AddsAt place lane x before after

  nothing : ((item : Candidate) (p : ℕ) → (p ≡ place) × (item.offset ≡ lane) → EndsAtPlace x item p → ⊥) → Adds
  nothing never = (before, adds_none (λ p l. (p ≡ place) × (l ≡ lane)) x before never)

  -- what ends at the place in the lane, the place and the lane being named
  frame_of : (item : Candidate) (p : ℕ) → (p ≡ place) × (item.offset ≡ lane) → EndsAtPlace x item p
      → EndsFrame (lane_bits x lane (place + 1)) item.octets
  frame_of item p of ends =
      subst (λ l. EndsFrame (lane_bits x l (place + 1)) item.octets) of.1
      (subst (λ q. EndsFrame (lane_bits x item.offset (q + 1)) item.octets) of.0 ends.frame)

  add_frame : (octets : List ℕ) → is_read_at x lane place ≡ true → EndsFrame (lane_bits x lane (place + 1)) octets
      → is_in_time x lane place ≡ true → Adds
  add_frame octets reads frame in_time = elim (path_or_none octets) [
    | inr none ↦ nothing (λ item p of ends.
        none (subst HasPath (one_frame (lane_bits x lane (place + 1)) item.octets octets
        (frame_of item p of ends) frame).0 ends.path))
    | inl path ↦
        let item : Candidate = record { end = place + 8 - delay_of lane; offset = lane; octets = octets } in (
          before ++ item ∷ [],
          adds_one x place lane before (before ++ item ∷ []) item refl refl
              (record {
                least = least;
                most = most;
                reads = reads;
                end_of = refl;
                frame = frame;
                path = path;
                in_time = in_time;
              })
              (λ others ends. (one_frame (lane_bits x lane (place + 1)) octets others frame ends).0),
        )
  ]

  add_in_time : (octets : List ℕ) → is_read_at x lane place ≡ true → EndsFrame (lane_bits x lane (place + 1)) octets
      → (b : Bool) → is_in_time x lane place ≡ b → Adds
  add_in_time octets reads frame true in_time = add_frame octets reads frame in_time
  add_in_time octets reads frame false late = nothing
      (λ item p of ends. true≢false (sym ends.in_time ∙ (λ i. is_in_time x (of.1 i) (of.0 i)) ∙ late))

  add_read : (b : Bool) → is_read_at x lane place ≡ b → Adds
  add_read false reads = nothing
      (λ item p of ends. true≢false (sym ends.reads ∙ (λ i. is_read_at x (of.1 i) (of.0 i)) ∙ reads))
  add_read true reads = elim (frame_or_none (lane_bits x lane (place + 1))) [
    | inl frame ↦ add_in_time frame.0 reads frame.1 (is_in_time x lane place) refl
    | inr none ↦ nothing (λ item p of ends. none item.octets (frame_of item p of ends))
  ]

  -- what one lane hears at one place
  pub add_at : Adds
  add_at = add_read (is_read_at x lane place) refl

-- what is added at one place by the lanes below one
abbrev AddsBelow : ℕ → ℕ → List ℤ → List Candidate → List Candidate → Type 0
AddsBelow place lane x before after = AddsWhere (λ p l. (p ≡ place) × (l < lane)) x before after

-- at the places from one to below another
abbrev AddsBetween : ℕ → ℕ → List ℤ → List Candidate → List Candidate → Type 0
AddsBetween from to x before after = AddsWhere (λ p l. (from ≤ p) × (p < to)) x before after

adds_next_lane : (place lane : ℕ) (x : List ℤ) (before found after : List Candidate)
    → AddsBelow place lane x before found → AddsAt place lane x found after
    → AddsBelow place (lane + 1) x before after
adds_next_lane place lane x before found after a b =
    adds_join (λ p q. (p ≡ place) × (q < lane)) (λ p q. (p ≡ place) × (q ≡ lane))
    (λ p q. (p ≡ place) × (q < lane + 1)) x before found after a b
    (λ p q h. (h.0, (let small = h.1 in omega arith))) (λ p q h. (h.0, (let same = h.1 in omega arith)))
    (λ p q h. elim (cases_lt q lane) [ inl lt ↦ inl (h.0, lt) | inr ge ↦ inr (h.0, (let small = h.1 in omega arith)) ])
    (λ p q h k. let small = h.1 in let same = k.1 in omega arith)

-- what the lanes below lane 26 add at a place is all that is added there
adds_place : (place : ℕ) (x : List ℤ) (before after : List Candidate)
    → AddsBelow place 26 x before after → AddsBetween place (suc place) x before after
adds_place place x before after a = record {
  heard = a.heard;
  found = a.found;
  are = record {
    each = λ k d l. let e = a.are.each k d l in (e.0, (let p = e.1.0 in (omega arith, omega arith)), e.2);
    whole = λ item p of ends. let low = of.0 in let high = of.1 in
        a.are.whole item p ((let e : p ≡ place = omega arith in e), ends.most) ends;
    apart = a.are.apart;
  };
}

-- what is added at the first places, and at the one after them
adds_next_place : (n : ℕ) (x : List ℤ) (before found after : List Candidate)
    → AddsBetween 0 n x before found → AddsBetween n (suc n) x found after
    → AddsBetween 0 (suc n) x before after
adds_next_place n x before found after a b =
    adds_join (λ p l. (0 ≤ p) × (p < n)) (λ p l. (n ≤ p) × (p < suc n)) (λ p l. (0 ≤ p) × (p < suc n)) x before found
    after a b
    (λ p l h. (h.0, (let high = h.1 in omega arith)))
    (λ p l h. ((let least : 0 ≤ p = omega arith in least), h.1))
    (λ p l h. elim (cases_lt p n) [ inl lt ↦ inl (h.0, lt) | inr ge ↦ inr (ge, h.1) ])
    (λ p l h k. let high = h.1 in let low = k.0 in omega arith)

-- what the first of the added lanes hear at a place
add_below : (x : List ℤ) (place n : ℕ) → n ≤ 18 → (before : List Candidate) → (after : List Candidate) × AddsBelow place
    (8 + n) x before after
add_below x place zero few before = (
  before,
  adds_none (λ p l. (p ≡ place) × (l < 8)) x before (λ item p of ends. let least = ends.least in
      let small = of.1 in absurd (omega arith)),
)
add_below x place (suc n) few before =
    let rest = add_below x place n (omega arith) before in
    let here = add_at x place (8 + n) (omega arith) (omega arith) rest.0 in
    let next : 8 + n + 1 ≡ 8 + suc n = omega arith in (
      here.0,
      subst (λ l. AddsBelow place l x before here.0) next
          (adds_next_lane place (8 + n) x before rest.0 here.0 rest.1 here.1),
    )

-- what all of them hear at the first places
add_first : (x : List ℤ) (n : ℕ) → (items : List Candidate) × AddsBetween 0 n x [] items
add_first x zero = (
  [],
  adds_none (λ p l. (0 ≤ p) × (p < 0)) x []
      (λ item p of ends. let low = of.1 in absurd (omega arith)),
)
add_first x (suc n) =
    let rest = add_first x n in
    let here = add_below x n 18 (omega arith) rest.0 in
    (here.0, adds_next_place n x [] rest.0 here.0 rest.1 (adds_place n x rest.0 here.0 here.1))

pub some_list : (x : List ℤ) → (items : List Candidate) × AreHeard x items
some_list x =
    let eight = some_of_eight x in
    let added = add_first x (added_places (length x)) in (
      all_of [] x [] eight.0 added.1.heard none_heard eight.1 added.1.are,
      heard_join [] x [] eight.0 added.1.heard none_heard eight.1 added.1.are,
    )
