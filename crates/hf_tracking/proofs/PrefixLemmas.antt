-- What is decided of samples stays as it is when more samples follow.
use Rattle.hf_tracking.proofs.Common.{◌≡◌, ℕ, zero, suc, ◌+◌, ◌-◌, ◌*◌, ◌/◌, ◌%◌, ◌<◌, ◌≤◌, ℤ, pos, List, ◌++◌, length}
use Rattle.hf_tracking.proofs.Common.{refl, sym, ◌∙◌, arith, inl, inr, cases_lt, Tone, Correlations, correlations}
use Rattle.hf_tracking.proofs.Common.{tone_before, decided, next_track, track_at, tone_at, heard, places_in, windows_in}
use Rattle.hf_tracking.proofs.Common.{HeldTones, HasTaken}
use Rattle.std.proofs.Common.{length-append}
use Rattle.std.proofs.lemmas.List.{get_or_append_left}
use Rattle.tone_tracking.proofs.TrackerLemmas.{tone_before-within, tone_before-outside}
use Rattle.hf_tracking.specs.Heard.{track_of}
use Rattle.hf_tracking.proofs.CorrelationLemmas.{correlations-agree}
use Rattle.hf_tracking.proofs.TrackerLemmas.{track_at-first}

-- windows that agree up to a place give the same track
track_of-agree : (v w : ℕ → Correlations) (first count limit : ℕ) → ((p : ℕ) → p ≤ limit → v p ≡ w p)
    → first + 8 * count + 8 ≤ limit
    → track_of v first count ≡ track_of w first count
unfolding track_of
track_of-agree v w first zero limit agree inside = refl
track_of-agree v w first (suc count) limit agree inside =
    let place : ℕ = first + 8 * count in
    let track = track_of-agree v w first count limit agree (omega arith) in
    let now = agree place (omega arith) in
    let next = agree (place + 8) (omega arith) in
    let later = agree (place + 16) (omega arith) in
    λ i. next_track (decided (track i) (now i) (next i) (later i)) (now i) (track i)

track_at-agree : (v w : ℕ → Correlations) (place limit : ℕ) → ((p : ℕ) → p ≤ limit → v p ≡ w p) → place + 8 ≤ limit
    → track_at v place ≡ track_at w place
unfolding track_at
track_at-agree v w place limit agree inside = track_of-agree v w (place % 8) (place / 8) limit agree (omega arith)

tone_at-agree : (v w : ℕ → Correlations) (place limit : ℕ) → ((p : ℕ) → p ≤ limit → v p ≡ w p) → place + 16 ≤ limit
    → tone_at v place ≡ tone_at w place
unfolding tone_at
tone_at-agree v w place limit agree inside =
    let track = track_at-agree v w place limit agree (omega arith) in
    let now = agree place (omega arith) in
    let next = agree (place + 8) (omega arith) in
    let later = agree (place + 16) (omega arith) in
    λ i. decided (track i) (now i) (next i) (later i)

-- the correlations of a window that lies in the first samples
pub correlations-append : (bank : ℕ) (x y : List ℤ) (place : ℕ) → place < windows_in (length x)
    → correlations bank x place ≡ correlations bank (x ++ y) place
correlations-append bank x y place inside =
    correlations-agree bank x (x ++ y) place
    (λ i small. sym (get_or_append_left x y (pos 0) (4 * place + i) (omega arith)))

-- and the tone of a place of the first samples
pub heard-append : (bank : ℕ) (x y : List ℤ) (place : ℕ) → place < places_in (length x)
    → heard bank x place ≡ heard bank (x ++ y) place
heard-append bank x y place inside =
    tone_at-agree (correlations bank x) (correlations bank (x ++ y)) place (windows_in (length x) - 1)
    (λ p le. correlations-append bank x y p (omega arith)) (omega arith)

-- tones that agree are the same some places before a place
tone_before-agree : (t u : ℕ → Tone) (count back : ℕ) → ((p : ℕ) → p < count → t p ≡ u p)
    → tone_before t count back ≡ tone_before u count back
tone_before-agree t u count back agree = elim (cases_lt back count) [
  | inl within ↦ tone_before-within t count back within ∙ agree (count - 1 - back) (omega arith)
      ∙ sym (tone_before-within u count back within)
  | inr outside ↦ tone_before-outside t count back outside ∙ sym (tone_before-outside u count back outside)
]

-- the tone some places before one of the first samples
pub heard_before-append : (bank : ℕ) (x y : List ℤ) (count back : ℕ) → count ≤ places_in (length x)
    → tone_before (heard bank x) count back ≡ tone_before (heard bank (x ++ y)) count back
heard_before-append bank x y count back inside = tone_before-agree (heard bank x) (heard bank (x ++ y)) count back
    (λ p l. heard-append bank x y p (omega arith))

-- ---- what is kept

track-append : (bank : ℕ) (x y : List ℤ) (count place : ℕ) → count ≤ length x → place < places_in count + 8
    → track_at (correlations bank x) place ≡ track_at (correlations bank (x ++ y)) place
track-append bank x y count place inside near = elim (cases_lt place 8) [
  | inl small ↦ track_at-first (correlations bank x) place small
      ∙ sym (track_at-first (correlations bank (x ++ y)) place small)
  | inr large ↦ track_at-agree (correlations bank x) (correlations bank (x ++ y)) place (windows_in (length x) - 1)
      (λ p le. correlations-append bank x y p (omega arith)) (omega arith)
]

-- the tones have taken the first of more samples
pub taken-append : (held : HeldTones) (x y : List ℤ) → HasTaken held x → HasTaken held (x ++ y)
taken-append held x y h =
    let inside = h.samples.within in
    let len = length-append x y in
    let p = h.place in
    record {
      samples = record {
        within = omega arith;
        last = λ i small enough. h.samples.last i small enough
            ∙ sym (get_or_append_left x y (pos 0) (held.count + i - 32) (omega arith));
        recent = λ place d there late. h.samples.recent place d there late
            ∙ correlations-append held.bank x y place (omega arith);
      };
      place = h.place;
      stands_for = record {
        tracks = λ j d small. h.stands_for.tracks j d small
            ∙ track-append held.bank x y held.count (held.tracker.place + j) inside (omega arith);
        recent = λ back d small. h.stands_for.recent back d small
            ∙ tone_before-agree (heard held.bank x) (heard held.bank (x ++ y)) held.tracker.place back
            (λ q l. heard-append held.bank x y q (omega arith));
      };
    }
