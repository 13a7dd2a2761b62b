-- Evidence and hold of windows that more windows follow, and what a lane keeps of them.
use Rattle.std.proofs.Common.{◌≡◌, ℕ, zero, suc, ◌-◌, ◌<◌, List, [], ◌∷◌, ◌++◌, length, Some, None, refl, ap, sym, ◌∙◌}
use Rattle.std.proofs.Common.{arith}
use Rattle.std.specs.Prelude.{slice_get}
use Rattle.std.proofs.lemmas.List.{get_or_append_left, length_push}
use Rattle.std.proofs.lemmas.Option.{slice_get-get_or, get_or_from_slice_get}
use Rattle.std.proofs.Math.Seq.{get_or-append_seam}
use Rattle.tone_carrier.specs.declared.heard_window.HeardWindow.{HeardWindow}
use Rattle.tone_carrier.specs.Evidence.{evidence, evidence_with, heard_at, silent}
use Rattle.tone_carrier.specs.Hold.{hold, hold_with}
use Rattle.tone_carrier.specs.Held.{HeldLane, LaneStandsFor}

-- the evidence after a window is the same whatever follows
pub evidence-append : (windows more : List HeardWindow) (k : ℕ) → k < length windows
    → evidence (windows ++ more) k ≡ evidence windows k
unfolding evidence
evidence-append windows more zero below = refl
evidence-append windows more (suc k) below =
    let before = evidence-append windows more k (omega arith) in
    let first : heard_at (windows ++ more) k ≡ heard_at windows k
    = get_or_append_left windows more silent k (omega arith) in
    let second : heard_at (windows ++ more) (suc k) ≡ heard_at windows (suc k)
    = get_or_append_left windows more silent (suc k) below in
    λ i. evidence_with (before i) (first i) (second i)

-- and so is the hold
pub hold-append : (windows more : List HeardWindow) (k : ℕ) → k < length windows
    → hold (windows ++ more) k ≡ hold windows k
unfolding hold
hold-append windows more zero below = refl
hold-append windows more (suc k) below =
    let before = hold-append windows more k (omega arith) in
    let evidence = evidence-append windows more (suc k) below in
    λ i. hold_with (before i) (evidence i)

-- a lane that has taken nothing
pub lane_empty : (held : HeldLane) → held.last ≡ None → held.evidence ≡ 0 → held.hold ≡ 0 → LaneStandsFor held []
unfolding evidence hold
lane_empty held last evidence hold = record { last = last; evidence = evidence; hold = hold }

abbrev held_of : HeardWindow → ℕ → ℕ → HeldLane
held_of window evidence hold = record { last = Some window; evidence = evidence; hold = hold }

some_window : (windows : List HeardWindow) → slice_get windows (length windows - 1) ≡ None → length windows ≡ 0
some_window [] none = refl
some_window (w ∷ windows) none =
    let there = slice_get-get_or (w ∷ windows) (length (w ∷ windows) - 1) silent (omega arith) in cc (none, there)

-- the first window
first_window : (windows : List HeardWindow) (window : HeardWindow) (e h : ℕ) → length windows ≡ 0
    → e ≡ evidence windows (length windows - 1) → h ≡ hold windows (length windows - 1)
    → LaneStandsFor (held_of window e h) (windows ++ window ∷ [])
unfolding evidence hold
first_window [] window e h none evidence hold = record { last = refl; evidence = evidence; hold = hold }
first_window (w ∷ windows) window e h none evidence hold = absurd (omega arith)

pub lane_first : (held : HeldLane) (windows : List HeardWindow) (window : HeardWindow) → held.last ≡ None
    → LaneStandsFor held windows
    → LaneStandsFor (held_of window held.evidence held.hold) (windows ++ window ∷ [])
lane_first held windows window none h =
    first_window windows window held.evidence held.hold (some_window windows (sym h.last ∙ none)) h.evidence h.hold

-- a window after others
next_window : (windows : List HeardWindow) (before window : HeardWindow) (e h : ℕ) (k : ℕ) → length windows ≡ suc k
    → slice_get windows k ≡ Some before
    → e ≡ evidence_with (evidence windows k) before window → h ≡ hold_with (hold windows k) e
    → LaneStandsFor (held_of window e h) (windows ++ window ∷ [])
unfolding evidence hold
next_window windows before window e h k size last is_evidence is_hold =
    let all : List HeardWindow = windows ++ window ∷ [] in
    let at : length all - 1 ≡ suc k = omega (arith, length_push windows window) in
    let first : heard_at all k ≡ before
    = get_or_append_left windows (window ∷ []) silent k (omega arith)
    ∙ get_or_from_slice_get windows k before silent last in
    let second : heard_at all (suc k) ≡ window
    = ap (heard_at all) (sym size) ∙ get_or-append_seam windows window [] silent in
    let evidence_there : evidence all (suc k) ≡ e
    = (λ i. evidence_with (evidence-append windows (window ∷ []) k (omega arith) i) (first i) (second i))
    ∙ sym is_evidence in
    let hold_there : hold all (suc k) ≡ h
    = (λ i. hold_with (hold-append windows (window ∷ []) k (omega arith) i) (evidence_there i)) ∙ sym is_hold in
    record {
      last = ap Some (sym second)
          ∙ sym (slice_get-get_or all (suc k) silent (omega (arith, length_push windows window)))
          ∙ ap (slice_get all) (sym at);
      evidence = sym evidence_there ∙ ap (evidence all) (sym at);
      hold = sym hold_there ∙ ap (hold all) (sym at);
    }

place_of : (n : ℕ) → 0 < n → n ≡ suc (n - 1)
place_of n some = omega arith

pub lane_next : (held : HeldLane) (windows : List HeardWindow) (before window : HeardWindow) (e h : ℕ)
    → held.last ≡ Some before → e ≡ evidence_with held.evidence before window → h ≡ hold_with held.hold e
    → LaneStandsFor held windows
    → LaneStandsFor (held_of window e h) (windows ++ window ∷ [])
lane_next held [] before window e h last is_evidence is_hold stands = cc (last, stands.last)
lane_next held (w ∷ windows) before window e h last is_evidence is_hold stands =
    let all : List HeardWindow = w ∷ windows in
    next_window all before window e h (length all - 1) (place_of (length all) (omega arith)) (sym stands.last ∙ last)
    (is_evidence ∙ ap (λ n. evidence_with n before window) stands.evidence)
    (is_hold ∙ ap (λ n. hold_with n e) stands.hold)
