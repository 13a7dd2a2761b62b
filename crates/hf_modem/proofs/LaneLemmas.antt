-- Lanes as they are made, and all of them with one sample more.
use Rattle.hf_modem.proofs.Common.{◌≡◌, ℕ, ◌+◌, ◌*◌, ◌<◌, ℤ, List, [], ◌∷◌, ◌++◌, length, get_or, set, ap, sym, ◌∙◌}
use Rattle.hf_modem.proofs.Common.{arith, subst, inl, inr, All, cases_eq, Tone, tone_of, tones_at, HeldToneLane}
use Rattle.hf_modem.proofs.Common.{ToneLaneStandsFor, last_window}
use Rattle.std.proofs.lemmas.List.{get_or-set_same, get_or-set_other}
use Rattle.hf_modem.specs.Held.{LanesStandFor}
use Rattle.hf_modem.proofs.SlicerLemmas.{tones_of_none}
use Rattle.hf_modem.proofs.LastWindow.{tones_at-none, tones_at-last}

-- lanes that have taken nothing stand for no samples
pub stand_fresh : (lanes : List HeldToneLane) → length lanes ≡ 32 → All (λ lane. ToneLaneStandsFor lane []) lanes
    → LanesStandFor lanes []
stand_fresh lanes all fresh k d l = subst (ToneLaneStandsFor (get_or lanes k d)) (sym (tones_of_none k))
    (fresh k d (omega arith))

-- before the 32nd sample no lane has a window
pub lanes_none : (lanes : List HeldToneLane) (x : List ℤ) (sample : ℤ) → length x + 1 < 32 → LanesStandFor lanes x
    → LanesStandFor lanes (x ++ sample ∷ [])
lanes_none lanes x sample few h k d small =
    let none : ((j : ℕ) × (length x + 1 ≡ k + 32 * (j + 1))) → ⊥ = λ ends. let at = ends.1 in omega arith in
    subst (ToneLaneStandsFor (get_or lanes k d)) (sym (tones_at-none k x sample none)) (h k d small)

-- the lane whose window ends with a sample takes its tone, and the others stay as they are
pub lanes_more : (lanes : List HeldToneLane) (offset w : ℕ) (was lane : HeldToneLane) (x : List ℤ) (sample : ℤ)
    (tone : Tone)
    → length lanes ≡ 32 → offset < 32
    → length x + 1 ≡ offset + 32 * (w + 1) → tone ≡ tone_of (last_window (x ++ sample ∷ []))
    → ((tones : List Tone) → ToneLaneStandsFor (get_or lanes offset was) tones
    → ToneLaneStandsFor lane (tones ++ tone ∷ []))
    → LanesStandFor lanes x → LanesStandFor (set lanes offset lane) (x ++ sample ∷ [])
lanes_more lanes offset w was lane x sample tone all small ends is step h k d below = elim (cases_eq k offset) [
  | inl same ↦
      let more : tones_at offset (x ++ sample ∷ []) ≡ tones_at offset x ++ tone ∷ []
      = tones_at-last offset w x sample ends ∙ ap (λ t. tones_at offset x ++ t ∷ []) (sym is) in
      let now : ToneLaneStandsFor lane (tones_at offset (x ++ sample ∷ []))
      = subst (ToneLaneStandsFor lane) (sym more) (step (tones_at offset x) (h offset was small)) in
      let there : get_or (set lanes offset lane) k d ≡ lane = ap (λ n. get_or (set lanes offset lane) n d) same
      ∙ get_or-set_same lanes offset lane d (omega arith) in
      subst (λ t. ToneLaneStandsFor t (tones_at k (x ++ sample ∷ []))) (sym there)
      (subst (λ n. ToneLaneStandsFor lane (tones_at n (x ++ sample ∷ []))) (sym same) now)
  | inr other ↦
      let none : ((j : ℕ) × (length x + 1 ≡ k + 32 * (j + 1))) → ⊥ = λ there. let at = there.1 in other (omega arith) in
      subst (λ t. ToneLaneStandsFor t (tones_at k (x ++ sample ∷ [])))
      (sym (get_or-set_other lanes offset k lane d other))
      (subst (ToneLaneStandsFor (get_or lanes k d)) (sym (tones_at-none k x sample none)) (h k d below))
]
