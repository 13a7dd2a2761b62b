-- What is decided of samples stays as it is when more samples follow.
use Rattle.sensitive_receiver.proofs.Common.{◌≡◌, ℕ, zero, suc, ◌+◌, ◌-◌, ◌<◌, ◌≤◌, ℤ, pos, List, ◌++◌}
use Rattle.sensitive_receiver.proofs.Common.{length, refl, sym, ◌∙◌, arith, inl, inr, length-append, cases_lt}
use Rattle.sensitive_receiver.proofs.Common.{get_or_append_left, Tone, Pull, Reach, clock_after, heard, places_in}
use Rattle.sensitive_receiver.proofs.Common.{tone_before, HeldLists}
use Rattle.tone_tracking.specs.Clock.{next_clock}
use Rattle.tone_tracking.specs.Correlation.{correlations}
use Rattle.tone_tracking.specs.HeldRing.{HeldRing, StandsFor as RingStandsFor}
use Rattle.tone_tracking.specs.HeldTracker.{HeldTracker}
use Rattle.tone_tracking.specs.HeldLists.{HasDecided, HasTaken}
use Rattle.tone_tracking.proofs.PastLemmas.{correlations-append, past-append, tone_at-agree}
use Rattle.tone_tracking.proofs.TrackerLemmas.{tone_before-within, tone_before-outside}

-- and the tone of a place of the first samples
pub heard-append : (reach : Reach) (x y : List ℤ) (place : ℕ) → place < places_in (length x)
    → heard reach x place ≡ heard reach (x ++ y) place
heard-append reach x y place inside =
    tone_at-agree reach (correlations x) (correlations (x ++ y)) place (length x - 8)
    (λ p le. correlations-append x y p (omega arith)) (omega arith)

tone_before-agree : (t u : ℕ → Tone) (count back : ℕ) → ((p : ℕ) → p < count → t p ≡ u p)
    → tone_before t count back ≡ tone_before u count back
tone_before-agree t u count back agree = elim (cases_lt back count) [
  | inl within ↦ tone_before-within t count back within ∙ agree (count - 1 - back) (omega arith)
      ∙ sym (tone_before-within u count back within)
  | inr outside ↦ tone_before-outside t count back outside ∙ sym (tone_before-outside u count back outside)
]

-- the tone some places before one of the first samples
pub heard_before-append : (reach : Reach) (x y : List ℤ) (count back : ℕ) → count ≤ places_in (length x)
    → tone_before (heard reach x) count back ≡ tone_before (heard reach (x ++ y)) count back
heard_before-append reach x y count back inside = tone_before-agree (heard reach x) (heard reach (x ++ y)) count back
    (λ p l. heard-append reach x y p (omega arith))

-- tones that agree take a clock to the same place
pub clock_after-agree : (pull : Pull) (t u : ℕ → Tone) (count : ℕ) → ((p : ℕ) → p < count → t p ≡ u p)
    → clock_after pull t count ≡ clock_after pull u count
unfolding clock_after
clock_after-agree pull t u zero agree = refl
clock_after-agree pull t u (suc count) agree =
    let before = clock_after-agree pull t u count (λ p l. agree p (omega arith)) in
    let tone = agree count (omega arith) in
    λ i. next_clock pull (before i) (tone i)

-- ---- what is kept

decided-append : (tracker : HeldTracker) (count : ℕ) (x y : List ℤ) → count ≤ length x → HasDecided tracker count x
    → HasDecided tracker count (x ++ y)
decided-append tracker count x y inside h =
    let p = h.place in
    record {
      place = h.place;
      stands_for = record {
        pasts = λ j d small. h.stands_for.pasts j d small
            ∙ past-append tracker.reach x y count (tracker.place + j) inside (omega arith);
        recent = λ back d small. h.stands_for.recent back d small
            ∙ tone_before-agree (heard tracker.reach x) (heard tracker.reach (x ++ y)) tracker.place back
            (λ q l. heard-append tracker.reach x y q (omega arith));
      };
    }

-- a ring that has taken the tones of all places of the first of more samples
pub ring-append : (ring : HeldRing) (x y : List ℤ) → ring.place ≡ places_in (length x)
    → RingStandsFor ring (correlations x) → RingStandsFor ring (correlations (x ++ y))
ring-append ring x y all h = record {
  recent = λ back d small. h.recent back d small
      ∙ tone_before-agree (heard ring.reach x) (heard ring.reach (x ++ y)) ring.place back
      (λ q l. heard-append ring.reach x y q (omega arith));
}

-- the lists have taken the first of more samples
pub taken-append : (held : HeldLists) (x y : List ℤ) → HasTaken held x → HasTaken held (x ++ y)
taken-append held x y h =
    let inside = h.samples.within in
    let len = length-append x y in
    record {
      samples = record {
        within = omega arith;
        once = λ n before late. h.samples.once n before late ∙ sym (get_or_append_left x y (pos 0) n (omega arith));
        again = λ n before late. h.samples.again n before late ∙ sym (get_or_append_left x y (pos 0) n (omega arith));
        recent = λ place d there late. h.samples.recent place d there late
            ∙ correlations-append x y place (omega arith);
      };
      alone = decided-append held.alone held.count x y inside h.alone;
      near = decided-append held.near held.count x y inside h.near;
      far = decided-append held.far held.count x y inside h.far;
    }
