-- What the added lanes hear in samples stays as it is when more samples follow.
use Rattle.sensitive_receiver.proofs.Common.{◌≡◌, ℕ, zero, suc, ◌+◌, ◌<◌, ◌≤◌, Bool, true, false, ℤ, List, [], ◌∷◌}
use Rattle.sensitive_receiver.proofs.Common.{◌++◌, length, get_or, refl, ap, sym, subst, ◌∙◌, arith, not, ◌&&◌, bits_of}
use Rattle.sensitive_receiver.proofs.Common.{EndsFrame, Candidate, Slow, Fast, Alone, Near, Far, changes}
use Rattle.sensitive_receiver.proofs.Common.{reads, added_places, delay_of, list_of, is_read_by}
use Rattle.sensitive_receiver.proofs.Common.{is_read_at, readings_at, tone_back, lane_tones, EndsAtPlace, is_in_time}
use Rattle.sensitive_receiver.proofs.Common.{HasRead, HeldList, LaneStandsFor, lane_of, places_in, without_mean}
use Rattle.slicer_bank.specs.ToneLanes.{ToneLaneStandsFor}
use Rattle.sensitive_receiver.specs.FastLane.{FastHasRead, HeldFast}
use Rattle.sensitive_receiver.specs.FixedLanes.{FixedHasRead, HeldFixed}
use Rattle.std.proofs.Common.{add-one}
use Rattle.tone_tracking.specs.Correlation.{correlations}
use Rattle.tone_tracking.specs.HeldRing.{StandsFor as RingStandsFor}
use Rattle.tone_tracking.proofs.MeanLemmas.{length-without_mean, without_mean_begins}
use Rattle.sensitive_receiver.proofs.PrefixLemmas.{ring-append}
use Rattle.sensitive_receiver.proofs.LevelLemmas.{tones_before-append, clock-append}
use Rattle.sensitive_receiver.proofs.LaneLemmas.{lane_tones-read, lane_tones-not}
use Rattle.sensitive_receiver.proofs.VisitedLanes.{tones_of_none}

module _ (x y : List ℤ) where
  pub readings-append : (place : ℕ) → place < added_places (length x) → readings_at x place ≡ readings_at (x ++ y) place
  unfolding readings_at
  readings-append place inside =
      let a = clock-append x y Slow Near place (omega arith) in
      let b = clock-append x y Slow Far place (omega arith) in
      let c = clock-append x y Fast Near place (omega arith) in
      let d = clock-append x y Slow Alone place (omega arith) in
      λ i. record {
        place = place;
        slow_near = reads (a i);
        slow_far = reads (b i);
        fast_near = reads (c i);
        slow_alone = reads (d i);
      }

  pub tone_back-append : (lane place back : ℕ) → place < added_places (length x) → tone_back x lane place back ≡ tone_back
      (x ++ y) lane place back
  tone_back-append lane place back inside = tones_before-append (list_of lane) x y (place + 1) (delay_of lane + back)
      (omega arith)

  one_more : (lane count : ℕ) (b : Bool) → count < added_places (length x) → is_read_at x lane count ≡ b
      → lane_tones x lane count ≡ lane_tones (x ++ y) lane count
      → lane_tones x lane (count + 1) ≡ lane_tones (x ++ y) lane (count + 1)
  one_more lane count true inside here before =
      let there : is_read_at (x ++ y) lane count ≡ true = sym (ap (is_read_by lane) (readings-append count inside))
      ∙ here in
      lane_tones-read x lane count here ∙ (λ i. before i ++ tone_back-append lane count 0 inside i ∷ [])
      ∙ sym (lane_tones-read (x ++ y) lane count there)
  one_more lane count false inside here before =
      let there : is_read_at (x ++ y) lane count ≡ false = sym (ap (is_read_by lane) (readings-append count inside))
      ∙ here in
      lane_tones-not x lane count here ∙ before ∙ sym (lane_tones-not (x ++ y) lane count there)

  pub lane_tones-append : (lane count : ℕ) → count ≤ added_places (length x)
      → lane_tones x lane count ≡ lane_tones (x ++ y) lane count
  lane_tones-append lane zero inside = tones_of_none x lane ∙ sym (tones_of_none (x ++ y) lane)
  lane_tones-append lane (suc count) inside =
      ap (lane_tones x lane) (sym (add-one count))
      ∙ one_more lane count (is_read_at x lane count) (omega arith) refl (lane_tones-append lane count (omega arith))
      ∙ ap (lane_tones (x ++ y) lane) (add-one count)

  in_time-append : (lane place : ℕ) → place < added_places (length x)
      → is_in_time x lane place ≡ is_in_time (x ++ y) lane place
  in_time-append lane place inside =
      let a = tone_back-append lane place 8 inside in
      let b = tone_back-append lane place 0 inside in
      let c = tone_back-append lane place 16 inside in
      λ i. changes (a i) (b i) && not (changes (c i) (a i))

  -- an item of a place of the first samples is one of all, and the other way round
  pub ends-append : (item : Candidate) (place : ℕ) → place < added_places (length x) → EndsAtPlace x item place
      → EndsAtPlace (x ++ y) item place
  ends-append item place inside h = record {
    least = h.least;
    most = h.most;
    reads = sym (ap (is_read_by item.offset) (readings-append place inside)) ∙ h.reads;
    end_of = h.end_of;
    frame = subst (λ tones. EndsFrame (bits_of tones) item.octets)
        (lane_tones-append item.offset (place + 1) (omega arith)) h.frame;
    path = h.path;
    in_time = sym (in_time-append item.offset place inside) ∙ h.in_time;
  }

  pub ends-take : (item : Candidate) (place : ℕ) → place < added_places (length x) → EndsAtPlace (x ++ y) item place
      → EndsAtPlace x item place
  ends-take item place inside h = record {
    least = h.least;
    most = h.most;
    reads = ap (is_read_by item.offset) (readings-append place inside) ∙ h.reads;
    end_of = h.end_of;
    frame = subst (λ tones. EndsFrame (bits_of tones) item.octets)
        (sym (lane_tones-append item.offset (place + 1) (omega arith))) h.frame;
    path = h.path;
    in_time = in_time-append item.offset place inside ∙ h.in_time;
  }

  -- the lanes of a list have read all places of the first of more samples
  pub list_read-append : (held : HeldList) → held.ring.place ≡ added_places (length x) → HasRead held x
      → HasRead held (x ++ y)
  list_read-append held all h =
      let place = held.ring.place in
      let begins = without_mean_begins x y in
      let size = length-without_mean x in
      let whole : place ≡ places_in (length (without_mean x)) = omega arith in
      record {
        decided = subst (λ levels. RingStandsFor held.ring (correlations levels)) (sym begins.1)
            (ring-append held.ring (without_mean x) begins.0 whole h.decided);
        clock = h.clock ∙ clock-append x y Slow held.ring.reach place (omega arith);
        lanes = λ k d l. subst (λ tones. LaneStandsFor (get_or held.lanes k d) tones)
            (lane_tones-append (lane_of held.ring.reach k) place (omega arith)) (h.lanes k d l);
      }

  -- so has the lane on the fast clock
  pub fast_read-append : (held : HeldFast) → held.ring.place ≡ added_places (length x) → FastHasRead held x
      → FastHasRead held (x ++ y)
  fast_read-append held all h =
      let place = held.ring.place in
      let begins = without_mean_begins x y in
      let size = length-without_mean x in
      let whole : place ≡ places_in (length (without_mean x)) = omega arith in
      record {
        list = h.list;
        decided = subst (λ levels. RingStandsFor held.ring (correlations levels)) (sym begins.1)
            (ring-append held.ring (without_mean x) begins.0 whole h.decided);
        clock = h.clock ∙ clock-append x y Fast Near place (omega arith);
        lane = subst (LaneStandsFor held.lane) (lane_tones-append 22 place (omega arith)) h.lane;
      }

  -- and so have the lanes at fixed offsets
  pub fixed_read-append : (held : HeldFixed) → held.place ≡ added_places (length x) → FixedHasRead held x
      → FixedHasRead held (x ++ y)
  fixed_read-append held all h = record {
    lanes = λ k d l. subst (ToneLaneStandsFor (get_or held.lanes k d))
        (lane_tones-append (8 + k) held.place (omega arith)) (h.lanes k d l);
  }
