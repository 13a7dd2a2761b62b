-- What one lane hears at the place that was decided last.
use Rattle.sensitive_receiver.proofs.Common.{◌≡◌, ℕ, ◌+◌, ◌-◌, ◌<◌, ◌≤◌, true, false, ℤ, List, [], ◌∷◌, ◌++◌, refl}
use Rattle.sensitive_receiver.proofs.Common.{sym, subst, ◌∙◌, arith, true≢false, Tone, bits_of, EndsFrame, Candidate}
use Rattle.sensitive_receiver.proofs.Common.{HeldRing, tone_before, delay_of, list_of}
use Rattle.sensitive_receiver.proofs.Common.{tone_read, lane_tones, lane_bits}
use Rattle.sensitive_receiver.proofs.Common.{EndsAtPlace, HasPath, is_in_time, AddsAt, HeldLane, LaneStandsFor}
use Rattle.sensitive_receiver.proofs.Common.{LastIsRead, without_mean}
use Rattle.hdlc_framer.specs.Frames.{IsFrame}
use Rattle.hdlc_framer.specs.Held.{HoldsFrame}
use Rattle.tone_tracking.specs.declared.correlation.Correlations.{Correlations}
use Rattle.tone_tracking.specs.Correlation.{correlations}
use Rattle.tone_tracking.specs.Heard.{tone_at}
use Rattle.tone_tracking.specs.HeldRing.{StandsFor as RingStandsFor}
use Rattle.sensitive_receiver.specs.HeldLanes.{HoldsFrameOf}
use Rattle.sensitive_receiver.proofs.LaneLemmas.{tone_is_back, tones-pushed}
use Rattle.sensitive_receiver.proofs.FoundLemmas.{adds_none, adds_one}

-- ---- the tone that it reads

module _ (ring : HeldRing) (number place : ℕ) (x : List ℤ) (old new : HeldLane)
    (tone : Tone) (delay : ℕ)
    (last : LastIsRead ring number place x) (list : list_of number ≡ ring.reach)
    (tone_is : (windows : ℕ → Correlations) → RingStandsFor ring windows
    → tone ≡ tone_before (tone_at ring.reach windows) ring.place delay)
    (delay_is : delay ≡ delay_of number)
    (stood : LaneStandsFor old (lane_tones x number place)) where
  tone_there : tone ≡ tone_read x number place
  tone_there = tone_is_back x number place ring.place 0 delay ring.reach tone
      (tone_is (correlations (without_mean x)) last.decided) (sym list) last.last (delay_is ∙ omega arith)

  pushed : lane_tones x number (place + 1) ≡ lane_tones x number place ++ tone ∷ []
  pushed = tones-pushed x number place tone last.reads tone_there

  pub reads_tone : ((tones : List Tone) → LaneStandsFor old tones → LaneStandsFor new (tones ++ tone ∷ []))
      → LaneStandsFor new (lane_tones x number (place + 1))
  reads_tone step = subst (LaneStandsFor new) (sym pushed) (step (lane_tones x number place) stood)

  -- no frame ends
  pub no_frame : (found : List Candidate)
      → ((octets : List ℕ) → EndsFrame (bits_of (lane_tones x number place ++ tone ∷ [])) octets → ⊥)
      → AddsAt place number x found found
  no_frame found never = adds_none (λ p l. (p ≡ place) × (l ≡ number)) x found
      (λ item p of ends. never item.octets
      (subst (λ tones. EndsFrame (bits_of tones) item.octets) pushed
      (subst (λ l. EndsFrame (lane_bits x l (place + 1)) item.octets) of.1
      (subst (λ q. EndsFrame (lane_bits x item.offset (q + 1)) item.octets) of.0 ends.frame))))

  -- a frame ends
  pub some_frame : ((octets : List ℕ) × EndsFrame (bits_of (lane_tones x number place ++ tone ∷ [])) octets)
      → ((octets : List ℕ) → EndsFrame (bits_of (lane_tones x number place ++ tone ∷ [])) octets
      → HoldsFrame new.deframer octets)
      → HoldsFrameOf new (lane_bits x number (place + 1))
  some_frame some holds = record {
    octets = some.0;
    ends = subst (λ tones. EndsFrame (bits_of tones) some.0) (sym pushed) some.1;
    holds = λ frame ends. holds frame (subst (λ tones. EndsFrame (bits_of tones) frame) pushed ends);
  }

-- ---- the frame that ends with it

module _ (ring : HeldRing) (number place : ℕ) (x : List ℤ) (lane : HeldLane)
    (last : LastIsRead ring number place x) (list : list_of number ≡ ring.reach)
    (frame : HoldsFrameOf lane (lane_bits x number (place + 1))) where
  -- an item that ends there has a frame that ends with the lane's bits
  frame_of : (item : Candidate) (p : ℕ) → (p ≡ place) × (item.offset ≡ number) → EndsAtPlace x item p
      → EndsFrame (lane_bits x number (place + 1)) item.octets
  frame_of item p of ends =
      subst (λ l. EndsFrame (lane_bits x l (place + 1)) item.octets) of.1
      (subst (λ q. EndsFrame (lane_bits x item.offset (q + 1)) item.octets) of.0 ends.frame)

  -- it does not end in time
  pub not_in_time : (found : List Candidate) → is_in_time x number place ≡ false → AddsAt place number x found found
  not_in_time found late =
      adds_none (λ p l. (p ≡ place) × (l ≡ number)) x found
      (λ item p of ends. true≢false (sym ends.in_time ∙ (λ i. is_in_time x (of.1 i) (of.0 i)) ∙ late))

  -- it has no path
  pub no_path : (found : List Candidate) (octets : List ℕ)
      → ((o : List ℕ) → IsFrame o → HoldsFrame lane.deframer o → octets ≡ o)
      → (HasPath octets → ⊥)
      → AddsAt place number x found found
  no_path found octets given lacks =
      adds_none (λ p l. (p ≡ place) × (l ≡ number)) x found
      (λ item p of ends.
      let there = frame_of item p of ends in
      lacks (subst HasPath (sym (given item.octets there.2 (frame.holds item.octets there))) ends.path))

  -- it keeps both rules
  pub one_frame : (found after : List Candidate) (octets : List ℕ) (end : ℕ) → (16 ≤ number) × (number < 26)
      → after ≡ found ++ (record { end = end; offset = number; octets = octets }) ∷ []
      → end ≡ place + 8 - delay_of number
      → ((o : List ℕ) → IsFrame o → HoldsFrame lane.deframer o → octets ≡ o)
      → HasPath octets → is_in_time x number place ≡ true
      → AddsAt place number x found after
  one_frame found after octets end added is end_is given path in_time =
      let unique : (o : List ℕ) → EndsFrame (lane_bits x number (place + 1)) o → octets ≡ o
      = λ o ends. given o ends.2 (frame.holds o ends) in
      adds_one x place number found after (record { end = end; offset = number; octets = octets }) is refl
      (record {
        least = (let first = added.0 in omega arith);
        most = added.1;
        reads = last.reads;
        end_of = end_is;
        frame = subst (EndsFrame (lane_bits x number (place + 1))) (sym (unique frame.octets frame.ends)) frame.ends;
        path = path;
        in_time = in_time;
      })
      unique
