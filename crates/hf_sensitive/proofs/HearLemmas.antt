-- What one lane hears at the place that was decided last.
use Rattle.hf_sensitive.proofs.Common.{◌≡◌, ℕ, ◌+◌, ◌-◌, ◌<◌, ◌≤◌, true, false, ℤ, List, [], ◌∷◌, ◌++◌, refl, ap}
use Rattle.hf_sensitive.proofs.Common.{sym, subst, ◌∙◌, arith, true≢false, Tone, bits_of, EndsFrame, Candidate}
use Rattle.hf_sensitive.proofs.Common.{heard, places_in, HeldTones, TonesHaveTaken, tone_before, delay_of, bank_of}
use Rattle.hf_sensitive.proofs.Common.{is_read_at, tone_read, lane_tones, lane_bits, IsAmong}
use Rattle.hf_sensitive.proofs.Common.{EndsAtPlace, HasPath, is_in_time, AddsAmong, HeldLane, LaneStandsFor}
use Rattle.hf_sensitive.proofs.Common.{IsLastPlace, HoldsFrameOf}
use Rattle.hdlc_framer.specs.Frames.{IsFrame}
use Rattle.hdlc_framer.specs.Held.{HoldsFrame}
use Rattle.hf_sensitive.proofs.LaneLemmas.{tone_is_back, lane_tones-read, lane_tones-not}
use Rattle.hf_sensitive.proofs.FoundLemmas.{adds_none, adds_one}

-- what is among one place and one lane is at that place and of that lane
one_place_of : (place lane p l : ℕ) → IsAmong place (place + 1) lane (lane + 1) p l → (p ≡ place) × (l ≡ lane)
one_place_of place lane p l h =
    let a = h.from_place in let b = h.to_place in let c = h.from_lane in let d = h.to_lane in (omega arith, omega arith)

module _ (x : List ℤ) (place lane : ℕ) where
  -- the frame of an item that ends there, as the lane has it
  frame_of : (item : Candidate) (p : ℕ) → IsAmong place (place + 1) lane (lane + 1) p item.offset → EndsAtPlace x item p
      → EndsFrame (lane_bits x lane (place + 1)) item.octets
  frame_of item p of ends =
      let one = one_place_of place lane p item.offset of in
      subst (λ l. EndsFrame (lane_bits x l (place + 1)) item.octets) one.1
      (subst (λ q. EndsFrame (lane_bits x item.offset (q + 1)) item.octets) one.0 ends.frame)

  -- the lane does not read
  pub not_read : (old : HeldLane) → is_read_at x lane place ≡ false → LaneStandsFor old (lane_tones x lane place)
      → LaneStandsFor old (lane_tones x lane (place + 1))
  not_read old silent h = subst (LaneStandsFor old) (sym (lane_tones-not x lane place silent)) h

  pub not_heard : (found : List Candidate) → is_read_at x lane place ≡ false
      → AddsAmong place (place + 1) lane (lane + 1) x found found
  not_heard found silent =
      adds_none place (place + 1) lane (lane + 1) x found
      (λ item p of ends.
      let one = one_place_of place lane p item.offset of in
      true≢false (sym ends.reads ∙ (λ i. is_read_at x (one.1 i) (one.0 i)) ∙ silent))

  -- it does not end in time
  pub not_in_time : (found : List Candidate) → is_in_time x lane place ≡ false
      → AddsAmong place (place + 1) lane (lane + 1) x found found
  not_in_time found late =
      adds_none place (place + 1) lane (lane + 1) x found
      (λ item p of ends.
      let one = one_place_of place lane p item.offset of in
      true≢false (sym ends.in_time ∙ (λ i. is_in_time x (one.1 i) (one.0 i)) ∙ late))

  -- no frame ends
  pub no_frame : (found : List Candidate) → ((octets : List ℕ) → EndsFrame (lane_bits x lane (place + 1)) octets → ⊥)
      → AddsAmong place (place + 1) lane (lane + 1) x found found
  no_frame found never =
      adds_none place (place + 1) lane (lane + 1) x found
      (λ item p of ends. never item.octets (frame_of item p of ends))

  -- it has no path
  pub no_path : (found : List Candidate) (octets : List ℕ)
      → ((o : List ℕ) → EndsFrame (lane_bits x lane (place + 1)) o → octets ≡ o) → (HasPath octets → ⊥)
      → AddsAmong place (place + 1) lane (lane + 1) x found found
  no_path found octets given lacks =
      adds_none place (place + 1) lane (lane + 1) x found
      (λ item p of ends.
      lacks (subst HasPath (sym (given item.octets (frame_of item p of ends))) ends.path))

  -- it keeps both rules
  pub one_frame : (found after : List Candidate) (octets : List ℕ) (end : ℕ) → 32 ≤ lane → lane < 59
      → after ≡ found ++ (record { end = end; offset = lane; octets = octets }) ∷ []
      → end ≡ place + 8 - delay_of lane → is_read_at x lane place ≡ true
      → EndsFrame (lane_bits x lane (place + 1)) octets
      → ((o : List ℕ) → EndsFrame (lane_bits x lane (place + 1)) o → octets ≡ o)
      → HasPath octets → is_in_time x lane place ≡ true
      → AddsAmong place (place + 1) lane (lane + 1) x found after
  one_frame found after octets end least most is end_is reads frame unique path in_time =
      adds_one x place lane found after (record { end = end; offset = lane; octets = octets }) is refl
      (record {
        least = least;
        most = most;
        reads = reads;
        end_of = end_is;
        frame = frame;
        path = path;
        in_time = in_time;
      })
      unique

-- ---- the tone that the lane reads

module _ (tones : HeldTones) (x : List ℤ) (place lane delay : ℕ) (old new : HeldLane) (tone : Tone)
    (last : IsLastPlace tones place x) (same_bank : bank_of lane ≡ tones.bank) (reads : is_read_at x lane place ≡ true)
    (tone_is : (y : List ℤ) → TonesHaveTaken tones y → tone ≡ tone_before (heard tones.bank y) (places_in tones.count) delay)
    (delay_is : delay ≡ delay_of lane) (stood : LaneStandsFor old (lane_tones x lane place)) where
  tone_there : tone ≡ tone_read x lane place
  tone_there = tone_is_back x lane tones.bank place (places_in tones.count) 0 delay tone (tone_is x last.taken) same_bank
      last.last (delay_is ∙ omega arith)

  pub pushed : lane_tones x lane (place + 1) ≡ lane_tones x lane place ++ tone ∷ []
  pushed = lane_tones-read x lane place reads ∙ ap (λ t. lane_tones x lane place ++ t ∷ []) (sym tone_there)

  pub reads_tone : ((ts : List Tone) → LaneStandsFor old ts → LaneStandsFor new (ts ++ tone ∷ []))
      → LaneStandsFor new (lane_tones x lane (place + 1))
  reads_tone step = subst (LaneStandsFor new) (sym pushed) (step (lane_tones x lane place) stood)

  -- no frame ends with it
  pub ends_none : ((octets : List ℕ) → EndsFrame (bits_of (lane_tones x lane place ++ tone ∷ [])) octets → ⊥)
      → (octets : List ℕ) → EndsFrame (lane_bits x lane (place + 1)) octets → ⊥
  ends_none never octets ends = never octets (subst (λ ts. EndsFrame (bits_of ts) octets) pushed ends)

  -- a frame ends with it
  pub some_frame : ((octets : List ℕ) × EndsFrame (bits_of (lane_tones x lane place ++ tone ∷ [])) octets)
      → ((octets : List ℕ) → EndsFrame (bits_of (lane_tones x lane place ++ tone ∷ [])) octets
      → HoldsFrame new.deframer octets)
      → HoldsFrameOf new (lane_bits x lane (place + 1))
  some_frame some holds = record {
    octets = some.0;
    ends = subst (λ ts. EndsFrame (bits_of ts) some.0) (sym pushed) some.1;
    holds = λ frame ends. holds frame (subst (λ ts. EndsFrame (bits_of ts) frame) pushed ends);
  }

-- what a lane holds is the frame that ends with its bits
pub held_frame : (held : HeldLane) (x : List ℤ) (place lane : ℕ) (octets : List ℕ)
    → HoldsFrameOf held (lane_bits x lane (place + 1))
    → ((o : List ℕ) → IsFrame o → HoldsFrame held.deframer o → octets ≡ o)
    → (o : List ℕ) → EndsFrame (lane_bits x lane (place + 1)) o → octets ≡ o
held_frame held x place lane octets h given o ends = given o ends.2 (h.holds o ends)

-- and so those octets end with them
pub frame_ends : (held : HeldLane) (x : List ℤ) (place lane : ℕ) (octets : List ℕ)
    → HoldsFrameOf held (lane_bits x lane (place + 1))
    → ((o : List ℕ) → IsFrame o → HoldsFrame held.deframer o → octets ≡ o)
    → EndsFrame (lane_bits x lane (place + 1)) octets
frame_ends held x place lane octets h given =
    subst (EndsFrame (lane_bits x lane (place + 1))) (sym (held_frame held x place lane octets h given h.octets h.ends)) h.ends
