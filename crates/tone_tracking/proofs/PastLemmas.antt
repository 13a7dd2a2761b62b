-- The past at a place: windows that agree up to it give the same, so it stays as it is when more samples follow.
use Rattle.tone_tracking.proofs.Common.{◌≡◌, ℕ, zero, suc, ◌+◌, ◌-◌, ◌*◌, ◌/◌, ◌%◌, ◌<◌, ◌≤◌, ℤ, pos, List, length, refl}
use Rattle.tone_tracking.proofs.Common.{sym, ◌∙◌, arith, inl, inr, cases_lt, Correlations, correlations, decided, none, open_of}
use Rattle.tone_tracking.proofs.Common.{passed, past_at, places_in, tone_at}
use Rattle.std.proofs.Common.{◌++◌}
use Rattle.std.proofs.lemmas.List.{get_or_append_left}
use Rattle.tone_tracking.specs.declared.reach.Reach.{Reach}
use Rattle.tone_tracking.specs.declared.reach.Reach.TheVariants.{Alone}
unfoldable use Rattle.tone_tracking.specs.Heard.{past_of}
use Rattle.tone_tracking.proofs.CorrelationLemmas.{correlations-agree}
use Rattle.tone_tracking.proofs.TrackerLemmas.{past_at-first}

-- a window that is decided alone has no past
past_of_alone : (windows : ℕ → Correlations) (first count : ℕ) → past_of Alone windows first count ≡ none
unfolding past_of
past_of_alone windows first zero = refl
past_of_alone windows first (suc count) = refl

pub past_alone : (windows : ℕ → Correlations) (place : ℕ) → past_at Alone windows place ≡ none
unfolding past_at
past_alone windows place = past_of_alone windows (place % 8) (place / 8)

-- windows that agree up to a place give the same past
past_of-agree : (reach : Reach) (v w : ℕ → Correlations) (first count limit : ℕ) → ((p : ℕ) → p ≤ limit → v p ≡ w p)
    → first + 8 * count + 8 ≤ limit
    → past_of reach v first count ≡ past_of reach w first count
unfolding past_of
past_of-agree reach v w first zero limit agree inside = refl
past_of-agree reach v w first (suc count) limit agree inside =
    let place : ℕ = first + 8 * count in
    let past = past_of-agree reach v w first count limit agree (omega arith) in
    let now = agree place (omega arith) in
    let next = agree (place + 8) (omega arith) in
    let later = agree (place + 16) (omega arith) in
    λ i. passed reach (decided (past i) (now i) (open_of reach (next i) (later i))) (now i) (past i)

pub past_at-agree : (reach : Reach) (v w : ℕ → Correlations) (place limit : ℕ) → ((p : ℕ) → p ≤ limit → v p ≡ w p)
    → place + 8 ≤ limit
    → past_at reach v place ≡ past_at reach w place
unfolding past_at
past_at-agree reach v w place limit agree inside = past_of-agree reach v w (place % 8) (place / 8) limit agree
    (omega arith)

pub tone_at-agree : (reach : Reach) (v w : ℕ → Correlations) (place limit : ℕ) → ((p : ℕ) → p ≤ limit → v p ≡ w p)
    → place + 16 ≤ limit
    → tone_at reach v place ≡ tone_at reach w place
unfolding tone_at
tone_at-agree reach v w place limit agree inside =
    let past = past_at-agree reach v w place limit agree (omega arith) in
    let now = agree place (omega arith) in
    let next = agree (place + 8) (omega arith) in
    let later = agree (place + 16) (omega arith) in
    λ i. decided (past i) (now i) (open_of reach (next i) (later i))

-- the correlations of a window that lies in the first samples
pub correlations-append : (x y : List ℤ) (place : ℕ) → place + 8 ≤ length x
    → correlations x place ≡ correlations (x ++ y) place
correlations-append x y place inside =
    correlations-agree x (x ++ y) place place
    (λ i small. sym (get_or_append_left x y (pos 0) (place + i) (omega arith)))

-- the past at a place that the first samples decide, or at one of the seven after it
pub past-append : (reach : Reach) (x y : List ℤ) (count place : ℕ) → count ≤ length x → place < places_in count + 8
    → past_at reach (correlations x) place ≡ past_at reach (correlations (x ++ y)) place
past-append reach x y count place inside near = elim (cases_lt place 8) [
  | inl small ↦ past_at-first reach (correlations x) place small
      ∙ sym (past_at-first reach (correlations (x ++ y)) place small)
  | inr large ↦ past_at-agree reach (correlations x) (correlations (x ++ y)) place (length x - 8)
      (λ p le. correlations-append x y p (omega arith)) (omega arith)
]
