-- Samples without their mean, and what is decided of them, with more samples after them.
use Rattle.sensitive_receiver.proofs.Common.{◌≡◌, ℕ, ◌+◌, ◌-◌, ◌<◌, ◌≤◌, ℤ, pos, List, [], ◌∷◌, ◌++◌, length, get_or}
use Rattle.sensitive_receiver.proofs.Common.{take, drop, ap, sym, subst, ◌∙◌, arith, append_assoc}
use Rattle.sensitive_receiver.proofs.Common.{Pull, Reach, clock_after, heard, tones, added_places, tone_before}
use Rattle.sensitive_receiver.proofs.Common.{HeldLists, without_mean, length_push, length-take-le}
use Rattle.std.proofs.Common.{get_or-append-add}
use Rattle.std.proofs.lemmas.List.{take-append-drop, take_more}
use Rattle.tone_tracking.specs.HeldLists.{HasTaken as ListsHaveTaken}
use Rattle.tone_tracking.proofs.MeanLemmas.{length-without_mean, without_mean_begins}
use Rattle.sensitive_receiver.proofs.PrefixLemmas.{heard-append, heard_before-append, clock_after-agree, taken-append}

-- the tone of a place of the first samples
pub tones-append : (reach : Reach) (x y : List ℤ) (place : ℕ) → place < added_places (length x)
    → tones reach x place ≡ tones reach (x ++ y) place
tones-append reach x y place inside =
    let begins = without_mean_begins x y in
    let size = length-without_mean x in
    heard-append reach (without_mean x) begins.0 place (omega arith)
    ∙ ap (λ levels. heard reach levels place) (sym begins.1)

-- the tone some places before one of the first samples
pub tones_before-append : (reach : Reach) (x y : List ℤ) (count back : ℕ) → count ≤ added_places (length x)
    → tone_before (tones reach x) count back ≡ tone_before (tones reach (x ++ y)) count back
tones_before-append reach x y count back inside =
    let begins = without_mean_begins x y in
    let size = length-without_mean x in
    heard_before-append reach (without_mean x) begins.0 count back (omega arith)
    ∙ ap (λ levels. tone_before (heard reach levels) count back) (sym begins.1)

-- a clock on the tones of the first samples
pub clock-append : (x y : List ℤ) (pull : Pull) (reach : Reach) (count : ℕ) → count ≤ added_places (length x)
    → clock_after pull (tones reach x) count ≡ clock_after pull (tones reach (x ++ y)) count
clock-append x y pull reach count inside = clock_after-agree pull (tones reach x) (tones reach (x ++ y)) count
    (λ p l. tones-append reach x y p (omega arith))

-- lists that have taken the first samples without their mean
pub lists-append : (held : HeldLists) (x y : List ℤ) → ListsHaveTaken held (without_mean x)
    → ListsHaveTaken held (without_mean (x ++ y))
lists-append held x y h =
    let begins = without_mean_begins x y in
    subst (ListsHaveTaken held) (sym begins.1) (taken-append held (without_mean x) begins.0 h)

-- the one that a sample settles is the next one of those of all samples
pub level_is : (x : List ℤ) (position : ℕ) (sample level : ℤ) → position < length x
    → sample ≡ get_or x position (pos 0)
    → without_mean (take position x ++ sample ∷ []) ≡ without_mean (take position x) ++ level ∷ []
    → (position - 15 < length (without_mean x)) × (level ≡ get_or (without_mean x) (position - 15) (pos 0))
level_is x position sample level inside is settles =
    let front : List ℤ = take position x in
    let more : take (position + 1) x ≡ front ++ sample ∷ []
    = take_more x position (pos 0) inside ∙ ap (λ z. front ++ z ∷ []) (sym is) in
    let whole : (front ++ sample ∷ []) ++ drop (position + 1) x ≡ x
    = ap (λ l. l ++ drop (position + 1) x) (sym more) ∙ take-append-drop (position + 1) x in
    let begins = without_mean_begins (front ++ sample ∷ []) (drop (position + 1) x) in
    let levels : List ℤ = without_mean front in
    let all : without_mean x ≡ levels ++ (level ∷ [] ++ begins.0)
    = ap without_mean (sym whole) ∙ begins.1 ∙ ap (λ l. l ++ begins.0) settles
    ∙ append_assoc levels (level ∷ []) begins.0 in
    let few : length front ≡ position = length-take-le position x (omega arith) in
    let size : length levels ≡ length front - 15 = length-without_mean front in
    let longer = length-without_mean (front ++ sample ∷ []) in
    let one = length_push front sample in
    let last : length (without_mean (front ++ sample ∷ [])) ≡ length levels + 1 = ap length settles ∙ length_push levels level in
    let total = length-without_mean x in
    let at : position - 15 ≡ length levels + 0 = omega arith in (
      omega arith,
      sym (ap (λ l. get_or l (position - 15) (pos 0)) all
          ∙ ap (λ k. get_or (levels ++ (level ∷ [] ++ begins.0)) k (pos 0)) at
          ∙ get_or-append-add levels (level ∷ [] ++ begins.0) 0 (pos 0)),
    )
