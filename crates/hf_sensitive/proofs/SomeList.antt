-- Samples have a list of candidates: it is found place by place and lane by lane.
use Rattle.hf_sensitive.proofs.Common.{◌≡◌, ℕ, zero, suc, ◌+◌, ◌-◌, ◌<◌, ◌≤◌, Bool, true, false, ℤ, List, [], ◌∷◌}
use Rattle.hf_sensitive.proofs.Common.{◌++◌, length, refl, sym, subst, ◌∙◌, arith, inl, inr}
use Rattle.hf_sensitive.proofs.Common.{EndsFrame, Candidate, places_in, delay_of, is_read_at, lane_bits}
use Rattle.hf_sensitive.proofs.Common.{EndsAtPlace, HasPath, is_in_time, AreHeard, AddsAmong, AreAddedAmong}
use Rattle.hdlc_framer.proofs.FrameEnds.{one_frame as frames_agree}
use Rattle.slicer_bank.proofs.FrameDecided.{frame_or_none}
use Rattle.hf_modem.proofs.SomeList.{some_list as some_of_hf}
use Rattle.sensitive_receiver.proofs.PathDecided.{path_or_none}
use Rattle.hf_sensitive.proofs.FoundLemmas.{adds_at_no_place, adds_by_no_lane, adds_lanes, adds_places}
use Rattle.hf_sensitive.proofs.HearLemmas.{not_heard, not_in_time, no_frame, no_path, one_frame}
use Rattle.hf_sensitive.proofs.HeardLemmas.{all_of, heard_join, none_heard}

module _ (x : List ℤ) (place lane : ℕ) (least : 32 ≤ lane) (most : lane < 59) (before : List Candidate) where
  abbrev Adds : Type 0
  Adds = (after : List Candidate) × AddsAmong place (place + 1) lane (lane + 1) x before after

  agree : (octets : List ℕ) → EndsFrame (lane_bits x lane (place + 1)) octets → (o : List ℕ)
      → EndsFrame (lane_bits x lane (place + 1)) o → octets ≡ o
  agree octets frame o ends = (frames_agree (lane_bits x lane (place + 1)) octets o frame ends).0

  add_frame : (octets : List ℕ) → is_read_at x lane place ≡ true → EndsFrame (lane_bits x lane (place + 1)) octets
      → is_in_time x lane place ≡ true → Adds
  add_frame octets reads frame in_time = elim (path_or_none octets) [
    | inr none ↦ (before, no_path x place lane before octets (agree octets frame) none)
    | inl path ↦
        let item : Candidate = record { end = place + 8 - delay_of lane; offset = lane; octets = octets } in (
          before ++ item ∷ [],
          one_frame x place lane before (before ++ item ∷ []) octets (place + 8 - delay_of lane) least most refl refl
              reads frame (agree octets frame) path in_time,
        )
  ]

  add_in_time : (octets : List ℕ) → is_read_at x lane place ≡ true → EndsFrame (lane_bits x lane (place + 1)) octets
      → (b : Bool) → is_in_time x lane place ≡ b → Adds
  add_in_time octets reads frame true in_time = add_frame octets reads frame in_time
  add_in_time octets reads frame false late = (before, not_in_time x place lane before late)

  add_read : (b : Bool) → is_read_at x lane place ≡ b → Adds
  add_read false reads = (before, not_heard x place lane before reads)
  add_read true reads = elim (frame_or_none (lane_bits x lane (place + 1))) [
    | inl frame ↦ add_in_time frame.0 reads frame.1 (is_in_time x lane place) refl
    | inr none ↦ (before, no_frame x place lane before none)
  ]

  -- what one lane hears at one place
  add_at : Adds
  add_at = add_read (is_read_at x lane place) refl

-- what the first of the added lanes hear at a place
add_below : (x : List ℤ) (place n : ℕ) → n ≤ 27 → (before : List Candidate)
    → (after : List Candidate) × AddsAmong place (place + 1) 32 (32 + n) x before after
add_below x place zero few before = (before, adds_by_no_lane place (place + 1) 32 x before)
add_below x place (suc n) few before =
    let rest = add_below x place n (omega arith) before in
    let here = add_at x place (32 + n) (omega arith) (omega arith) rest.0 in
    let next : 32 + n + 1 ≡ 32 + suc n = omega arith in (
      here.0,
      subst (λ high. AddsAmong place (place + 1) 32 high x before here.0) next
          (adds_lanes place (place + 1) 32 (32 + n) (32 + n + 1) x before rest.0 here.0 (omega arith) (omega arith)
          rest.1 here.1),
    )

-- what all of them hear at the first places
add_first : (x : List ℤ) (n : ℕ) → (items : List Candidate) × AddsAmong 0 n 32 59 x [] items
add_first x zero = ([], adds_at_no_place 0 32 59 x [])
add_first x (suc n) =
    let rest = add_first x n in
    let here = add_below x n 27 (omega arith) rest.0 in
    let next : n + 1 ≡ suc n = omega arith in (
      here.0,
      subst (λ to. AddsAmong 0 to 32 59 x [] here.0) next
          (adds_places 0 n (n + 1) 32 59 x [] rest.0 here.0 (omega arith) (omega arith) rest.1 here.1),
    )

pub some_list : (x : List ℤ) → (items : List Candidate) × AreHeard x items
some_list x =
    let some = some_of_hf x in
    let added = add_first x (places_in (length x)) in (
      all_of [] x [] some.0 added.1.heard none_heard some.1 added.1.are,
      heard_join [] x [] some.0 added.1.heard none_heard some.1 added.1.are,
    )
