-- The bank of the lane on the fast clock with one place more, and with a line of them.
use Rattle.sensitive_receiver.proofs.Common.{◌≡◌, ℕ, ◌+◌, ◌<◌, ◌≤◌, ℤ, List, [], length, get_or, ap, sym, subst, ◌∙◌, arith}
use Rattle.sensitive_receiver.proofs.Common.{inl, inr, cases_lt, true, false, true≢false, refl, Bool, Tone, Candidate, Pull, Fast, Near}
use Rattle.sensitive_receiver.proofs.Common.{AddsAt, HeldLane, HeldRing, LaneStandsFor, LastIsRead, clock_after, is_read_at}
use Rattle.sensitive_receiver.proofs.Common.{lane_tones, reads, tones, without_mean}
unfoldable use Rattle.sensitive_receiver.specs.Lanes.{readings_at}
use Rattle.tone_tracking.specs.declared.correlation.Correlations.{Correlations}
use Rattle.tone_tracking.specs.declared.place_tones.PlaceTones.{PlaceTones}
use Rattle.tone_tracking.specs.Clock.{Clock, is_reading, next_clock}
use Rattle.tone_tracking.specs.Correlation.{correlations}
use Rattle.tone_tracking.specs.Heard.{tone_at}
use Rattle.tone_tracking.specs.HeldRing.{StandsFor as RingStandsFor}
use Rattle.tone_tracking.specs.Slots.{place_tones, tone_of}
use Rattle.tone_tracking.proofs.SlotLemmas.{tone_of_place}
use Rattle.sensitive_receiver.specs.FastLane.{FastAdds, FastHasRead, HeldFast}
use Rattle.sensitive_receiver.specs.Hearing.{AreTonesOf}
use Rattle.sensitive_receiver.proofs.FoundLemmas.{adds_join, adds_none}
use Rattle.sensitive_receiver.proofs.LaneLemmas.{lane_tones-not}
use Rattle.sensitive_receiver.proofs.ListLemmas.{clock_next}

abbrev pub fast_of_parts : HeldRing → Pull × Clock → HeldLane → HeldFast
fast_of_parts ring clock lane = record { ring = ring; clock = clock; lane = lane }

fast_reads : (x : List ℤ) (place : ℕ) → is_reading Fast (tones Near x) place ≡ is_read_at x 22 place
unfolding readings_at
fast_reads x place = refl

-- a place is decided
module _ (was ring : HeldRing) (clock clock_now : Pull × Clock) (lane : HeldLane) (tone : Tone) (p : Bool) (place : ℕ)
    (x : List ℤ)
    (h : FastHasRead (fast_of_parts was clock lane) x)
    (at_place : was.place ≡ place)
    (tone_here : tone ≡ tones Near x was.place)
    (push : (windows : ℕ → Correlations) → RingStandsFor was windows → tone ≡ tone_at was.reach windows was.place
    → RingStandsFor ring windows)
    (reach_is : ring.reach ≡ was.reach) (place_is : ring.place ≡ was.place + 1)
    (pull : clock.0 ≡ Fast)
    (next : clock_now.1 ≡ next_clock clock.0 clock.1 tone) (reading : p ≡ reads clock.1) where
  decided : RingStandsFor ring (correlations (without_mean x))
  decided = push (correlations (without_mean x)) h.decided (tone_here ∙ ap (λ r. tones r x was.place) (sym h.list))

  read_is : p ≡ is_read_at x 22 place
  read_is = reading ∙ ap reads h.clock ∙ ap (is_reading Fast (tones Near x)) at_place ∙ fast_reads x place

  stood : LaneStandsFor lane (lane_tones x 22 place)
  stood = subst (λ n. LaneStandsFor lane (lane_tones x 22 n)) at_place h.lane

  -- the bank has read the place if its lane has
  read_on : (now : HeldLane) → LaneStandsFor now (lane_tones x 22 (place + 1))
      → FastHasRead (fast_of_parts ring clock_now now) x
  read_on now stands =
      let end : place + 1 ≡ ring.place = omega arith in
      record {
        list = reach_is ∙ h.list;
        decided = decided;
        clock = next ∙ ap (λ w. next_clock w clock.1 tone) pull
            ∙ clock_next Fast (tones Near x) was.place clock.1 tone h.clock tone_here
            ∙ ap (clock_after Fast (tones Near x)) (sym place_is);
        lane = subst (λ n. LaneStandsFor now (lane_tones x 22 n)) end stands;
      }

  -- the lane reads
  there : p ≡ true → LastIsRead ring 22 place x
  there told = record { decided = decided; last = place_is ∙ ap (λ n. n + 1) at_place; reads = sym read_is ∙ told }

  pub fast_taken : (now : HeldLane) → p ≡ true
      → (LastIsRead ring 22 place x → LaneStandsFor lane (lane_tones x 22 place)
      → LaneStandsFor now (lane_tones x 22 (place + 1)))
      → FastHasRead (fast_of_parts ring clock_now now) x
  fast_taken now told step = read_on now (step (there told) stood)

  pub fast_found : (found after : List Candidate) → p ≡ true
      → (LastIsRead ring 22 place x → LaneStandsFor lane (lane_tones x 22 place) → AddsAt place 22 x found after)
      → FastAdds was.place (was.place + 1) x found after
  fast_found found after told adds =
      let a = adds (there told) stood in
      record {
        heard = a.heard;
        found = a.found;
        are = record {
          each = λ k d l.
              let e = a.are.each k d l in
              let at = e.1.0 in
              (e.0, ((omega arith, omega arith), e.1.1), e.2);
          whole = λ item q of ends.
              let low = of.0.0 in
              let high = of.0.1 in
              a.are.whole item q (omega arith, of.1) ends;
          apart = a.are.apart;
        };
      }

  -- it does not
  quiet : p ≡ false → is_read_at x 22 place ≡ false
  quiet told = sym read_is ∙ told

  pub fast_passed : p ≡ false → FastHasRead (fast_of_parts ring clock_now lane) x
  fast_passed told = read_on lane (subst (LaneStandsFor lane) (sym (lane_tones-not x 22 place (quiet told))) stood)

  pub fast_nothing : (found : List Candidate) → p ≡ false → FastAdds was.place (was.place + 1) x found found
  fast_nothing found told =
      adds_none (λ q l. ((was.place ≤ q) × (q < was.place + 1)) × (l ≡ 22)) x found
      (λ item q of ends.
      let low = of.0.0 in
      let high = of.0.1 in
      let here : q ≡ place = omega arith in
      true≢false (sym ends.reads ∙ (λ i. is_read_at x (of.1 i) (here i)) ∙ quiet told))

-- ---- a line of tones

-- what was read and found of the first places of a line
pub record FastHasFed (initial now : HeldFast) (line : List PlaceTones) (items : List Candidate) (n : ℕ) : Type 0 where
  pub place : now.ring.place ≡ initial.ring.place + n
  pub read : (x : List ℤ) → AreTonesOf initial.ring.place line x → FastHasRead initial x → FastHasRead now x
  pub found : (x : List ℤ) → AreTonesOf initial.ring.place line x → FastHasRead initial x
      → FastAdds initial.ring.place now.ring.place x [] items

pub fast_fed_none : (initial : HeldFast) (line : List PlaceTones) → FastHasFed initial initial line [] 0
fast_fed_none initial line =
    let at = initial.ring.place in
    record {
      place = omega arith;
      read = λ x are h. h;
      found = λ x are h. adds_none (λ p l. ((at ≤ p) × (p < at)) × (l ≡ 22)) x []
          (λ item place of ends. let low = of.0.0 in let high = of.0.1 in absurd (omega arith));
    }

module _ (initial was now : HeldFast) (line : List PlaceTones) (found after : List Candidate) (n : ℕ)
    (d : PlaceTones) (tone : Tone)
    (h : FastHasFed initial was line found n) (inside : n < length line)
    (tone_is : tone ≡ tone_of Near (get_or line n d))
    (place_is : now.ring.place ≡ was.ring.place + 1)
    (read : (x : List ℤ) → tone ≡ tones Near x was.ring.place → FastHasRead was x → FastHasRead now x)
    (adds : (x : List ℤ) → tone ≡ tones Near x was.ring.place → FastHasRead was x
    → FastAdds was.ring.place (was.ring.place + 1) x found after) where
  tone_read : (x : List ℤ) → AreTonesOf initial.ring.place line x → tone ≡ tones Near x was.ring.place
  tone_read x are =
      let windows : ℕ → Correlations = correlations (without_mean x) in
      let place = h.place in
      let at : initial.ring.place + n ≡ was.ring.place = omega arith in
      tone_is ∙ ap (tone_of Near) (are n d inside ∙ ap (place_tones windows) at)
      ∙ tone_of_place Near windows was.ring.place

  pub fast_fed_more : FastHasFed initial now line after (n + 1)
  fast_fed_more =
      let from : ℕ = initial.ring.place in
      let middle : ℕ = was.ring.place in
      let place = h.place in
      record {
        place = omega arith;
        read = λ x are start. read x (tone_read x are) (h.read x are start);
        found = λ x are start.
            subst (λ m. FastAdds from m x [] after) (sym place_is)
            (adds_join (λ p l. ((from ≤ p) × (p < middle)) × (l ≡ 22))
            (λ p l. ((middle ≤ p) × (p < middle + 1)) × (l ≡ 22))
            (λ p l. ((from ≤ p) × (p < middle + 1)) × (l ≡ 22)) x [] found after (h.found x are start)
            (adds x (tone_read x are) (h.read x are start))
            (λ p l k. ((k.0.0, (let high = k.0.1 in omega arith)), k.1))
            (λ p l k. (((let low = k.0.0 in omega arith), k.0.1), k.1))
            (λ p l k. elim (cases_lt p middle) [
              | inl lt ↦ inl ((k.0.0, lt), k.1)
              | inr ge ↦ inr ((ge, k.0.1), k.1)
            ])
            (λ p l k m. let high = k.0.1 in let low = m.0.0 in omega arith));
      }
