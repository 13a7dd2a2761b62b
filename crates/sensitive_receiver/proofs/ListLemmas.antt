-- A bank of the lanes of a list with one place more, and with a line of them.
use Rattle.sensitive_receiver.proofs.Common.{◌≡◌, ℕ, ◌+◌, ◌<◌, ◌≤◌, ℤ, List, [], ◌++◌, length, get_or, take, drop}
use Rattle.sensitive_receiver.proofs.Common.{ap, sym, subst, ◌∙◌, arith, Tone, Candidate, Pull, Slow, Bool}
use Rattle.sensitive_receiver.proofs.Common.{clock_after, reads, tones, without_mean}
use Rattle.sensitive_receiver.proofs.Common.{AddsIn, DecidedPlace, LanesHear, LanesAreAt, HasRead, HeldLane, HeldList, HeldRing}
use Rattle.sensitive_receiver.proofs.Common.{IsSlowOn, IsLastPlace, LanesHaveRead, refl, suc}
use Rattle.std.proofs.Math.Seq.{take-append_seam}
use Rattle.tone_tracking.specs.declared.correlation.Correlations.{Correlations}
use Rattle.tone_tracking.specs.declared.place_tones.PlaceTones.{PlaceTones}
use Rattle.tone_tracking.specs.declared.reach.Reach.{Reach}
use Rattle.tone_tracking.specs.Clock.{Clock, is_reading, next_clock}
use Rattle.tone_tracking.specs.Correlation.{correlations}
use Rattle.tone_tracking.specs.Heard.{tone_at}
use Rattle.tone_tracking.specs.Slots.{place_tones, tone_of}
use Rattle.tone_tracking.proofs.SlotLemmas.{tone_of_place}
use Rattle.sensitive_receiver.specs.Hearing.{AreTonesOf}
use Rattle.tone_tracking.specs.HeldRing.{StandsFor as RingStandsFor}
use Rattle.sensitive_receiver.proofs.FoundLemmas.{adds_none, adds_next_places}
use Rattle.sensitive_receiver.proofs.ListNumbers.{told_is_read}
use Rattle.sensitive_receiver.proofs.PlaceLanes.{adds_all, lanes_after, lanes_before}

abbrev pub list_of_parts : HeldRing → Pull × Clock → List HeldLane → HeldList
list_of_parts ring clock lanes = record { ring = ring; clock = clock; lanes = lanes }

-- what was lent comes back as it was left
pub given_back : {X : Type 0} (n : ℕ) (lanes before : List X) → n ≡ length lanes
    → take n (lanes ++ drop (length lanes) before) ≡ lanes
given_back n lanes before full = ap (λ m. take m (lanes ++ drop (length lanes) before)) full
    ∙ take-append_seam lanes (drop (length lanes) before)

-- a clock that has taken the tones up to a place takes the tone there
pub clock_next : (pull : Pull) (t : ℕ → Tone) (place : ℕ) (old : Clock) (tone : Tone) → old ≡ clock_after pull t place
    → tone ≡ t place → next_clock pull old tone ≡ clock_after pull t (place + 1)
unfolding clock_after
clock_next pull t place old tone is tone_is =
    (λ i. next_clock pull (is i) (tone_is i)) ∙ ap (clock_after pull t) (let e : suc place ≡ place + 1 = omega arith in e)

-- a place is decided
module _ (was ring : HeldRing) (clock clock_now : Pull × Clock) (lanes now : List HeldLane)
    (tone : Tone) (p : Bool) (place : ℕ) (x : List ℤ)
    (h : HasRead (list_of_parts was clock lanes) x)
    (at_place : was.place ≡ place)
    (tone_here : tone ≡ tones was.reach x was.place)
    (push : (windows : ℕ → Correlations) → RingStandsFor was windows → tone ≡ tone_at was.reach windows was.place
    → RingStandsFor ring windows)
    (reach_is : ring.reach ≡ was.reach) (place_is : ring.place ≡ was.place + 1)
    (pull : clock.0 ≡ Slow)
    (next : clock_now.1 ≡ next_clock clock.0 clock.1 tone) (reading : p ≡ reads clock.1)
    (found after : List Candidate) where
  abbrev pub at : DecidedPlace
  at = record { place = place; reads = p }

  last_place : IsLastPlace ring at x
  last_place = record {
    decided = push (correlations (without_mean x)) h.decided tone_here;
    last = place_is ∙ ap (λ n. n + 1) at_place;
    told = told_is_read x ring.reach at (reading ∙ ap reads h.clock
        ∙ (λ i. is_reading Slow (tones (sym reach_is i) x) (at_place i)));
  }

  -- the lanes had read all places before it
  lanes_were : LanesAreAt ring.reach 0 lanes place x
  lanes_were = lanes_before ring.reach x place lanes (subst (λ r. LanesHaveRead r lanes place x) (sym reach_is)
      (subst (λ n. LanesHaveRead was.reach lanes n x) at_place h.lanes))

  -- the bank has read the place if its lanes have
  pub taken_place : LanesHear 0 3 ring at lanes now found after → HasRead (list_of_parts ring clock_now now) x
  taken_place hear =
      let end : place + 1 ≡ ring.place = omega arith in
      let here : was.place + 1 ≡ ring.place = sym place_is in
      record {
        decided = last_place.decided;
        clock = next ∙ ap (λ w. next_clock w clock.1 tone) pull
            ∙ clock_next Slow (tones was.reach x) was.place clock.1 tone h.clock tone_here
            ∙ (λ i. clock_after Slow (tones (sym reach_is i) x) (here i));
        lanes = subst (λ n. LanesHaveRead ring.reach now n x) end
            (lanes_after ring.reach x place 3 now refl (hear.read x last_place lanes_were));
      }

  -- and what they hear there is what is added
  pub found_place : LanesHear 0 3 ring at lanes now found after
      → AddsIn was.reach was.place (was.place + 1) x found after
  found_place hear =
      subst (λ r. AddsIn r was.place (was.place + 1) x found after) reach_is
      (subst (λ p. AddsIn ring.reach p (p + 1) x found after) (sym at_place)
      (adds_all ring.reach place x 3 found after refl (hear.found x last_place lanes_were)))

-- ---- a line of tones

-- what was read and found of the first places of a line
pub record HasFed (initial now : HeldList) (line : List PlaceTones) (items : List Candidate) (n : ℕ) : Type 0 where
  pub place : now.ring.place ≡ initial.ring.place + n
  pub reach : now.ring.reach ≡ initial.ring.reach
  pub read : (x : List ℤ) → AreTonesOf initial.ring.place line x → HasRead initial x → HasRead now x
  pub found : (x : List ℤ) → AreTonesOf initial.ring.place line x → HasRead initial x
      → AddsIn initial.ring.reach initial.ring.place now.ring.place x [] items

pub fed_none : (initial : HeldList) (line : List PlaceTones) → HasFed initial initial line [] 0
fed_none initial line =
    let at = initial.ring.place in
    record {
      place = omega arith;
      reach = refl;
      read = λ x are h. h;
      found = λ x are h. adds_none (λ p l. ((at ≤ p) × (p < at)) × IsSlowOn initial.ring.reach l) x []
          (λ item place of ends. let low = of.0.0 in let high = of.0.1 in absurd (omega arith));
    }

module _ (initial was now : HeldList) (line : List PlaceTones) (found after : List Candidate) (n : ℕ)
    (d : PlaceTones) (reach : Reach) (tone : Tone)
    (h : HasFed initial was line found n) (inside : n < length line)
    (tone_is : tone ≡ tone_of reach (get_or line n d)) (own : reach ≡ was.ring.reach)
    (place_is : now.ring.place ≡ was.ring.place + 1) (reach_is : now.ring.reach ≡ was.ring.reach)
    (read : (x : List ℤ) → tone ≡ tones was.ring.reach x was.ring.place → HasRead was x → HasRead now x)
    (adds : (x : List ℤ) → tone ≡ tones was.ring.reach x was.ring.place → HasRead was x
    → AddsIn was.ring.reach was.ring.place (was.ring.place + 1) x found after) where
  tone_read : (x : List ℤ) → AreTonesOf initial.ring.place line x → tone ≡ tones was.ring.reach x was.ring.place
  tone_read x are =
      let windows : ℕ → Correlations = correlations (without_mean x) in
      let place = h.place in
      let at : initial.ring.place + n ≡ was.ring.place = omega arith in
      tone_is ∙ ap (tone_of reach) (are n d inside ∙ ap (place_tones windows) at)
      ∙ tone_of_place reach windows was.ring.place ∙ ap (λ r. tone_at r windows was.ring.place) own

  pub fed_more : HasFed initial now line after (n + 1)
  fed_more =
      let place = h.place in
      record {
        place = omega arith;
        reach = reach_is ∙ h.reach;
        read = λ x are start. read x (tone_read x are) (h.read x are start);
        found = λ x are start.
            let more = adds x (tone_read x are) (h.read x are start) in
            subst (λ m. AddsIn initial.ring.reach initial.ring.place m x [] after) (sym place_is)
            (adds_next_places initial.ring.reach initial.ring.place was.ring.place (was.ring.place + 1) x []
            found after (omega arith) (omega arith) (h.found x are start)
            (subst (λ r. AddsIn r was.ring.place (was.ring.place + 1) x found after) h.reach more));
      }
