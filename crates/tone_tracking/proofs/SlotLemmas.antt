-- The tones of a slot, window by window.
use Rattle.tone_tracking.proofs.Common.{◌≡◌, ℕ, ◌+◌, ◌*◌, ◌/◌, ◌%◌, ◌<◌, ◌≤◌, ℤ, List, length, get_or, set, ap, sym, subst, ◌∙◌}
use Rattle.tone_tracking.proofs.Common.{arith, inl, inr, cases_eq, get_or-set_same, get_or-set_other, ◌≢◌, refl, Mark, Space, Tone, Phasor, Correlations}
use Rattle.tone_tracking.proofs.Common.{correlations, decided, open_of, passed, past_at, tone_at}
use Rattle.tone_tracking.specs.declared.place_tones.PlaceTones.{PlaceTones}
use Rattle.tone_tracking.specs.declared.reach.Reach.{Reach}
use Rattle.tone_tracking.specs.declared.reach.Reach.TheVariants.{Alone, Near, Far}
use Rattle.tone_tracking.specs.Slots.{HeldSlot, packed, place_tones, tone_of}
use Rattle.tone_tracking.proofs.TrackerLemmas.{past_at-next}

-- a window is decided by the past there and its correlations and the next two
module _ (reach : Reach) (windows : ℕ → Correlations) (place : ℕ) (past : Phasor) (now next later : Correlations)
    (tone : Tone) (past_is : past ≡ past_at reach windows place) (now_is : now ≡ windows place)
    (next_is : next ≡ windows (place + 8)) (later_is : later ≡ windows (place + 16))
    (is : tone ≡ decided past now (open_of reach next later)) where
  pub slot_tone : tone ≡ tone_at reach windows place
  unfolding tone_at
  slot_tone = is ∙ (λ i. decided (past_is i) (now_is i) (open_of reach (next_is i) (later_is i)))

  -- and the past one window on
  pub slot_past : (after : Phasor) → after ≡ passed reach tone now past → after ≡ past_at reach windows (place + 8)
  slot_past after after_is = after_is ∙ (λ i. passed reach (slot_tone i) (now_is i) (past_is i))
      ∙ sym (past_at-next reach windows place)

-- a window of levels is one of those that give them
pub window_given : (levels : List ℤ) (windows : ℕ → Correlations) (base at place : ℕ) (now : Correlations)
    → ((i : ℕ) → correlations levels i ≡ windows (base + i)) → now ≡ correlations levels at → base + at ≡ place
    → now ≡ windows place
window_given levels windows base at place now gives is same = is ∙ gives at ∙ ap windows same

-- tones with one more
pub eighth_more : (tones : List PlaceTones) (windows : ℕ → Correlations) (first index : ℕ) (one : PlaceTones)
    → index < length tones
    → ((k : ℕ) (d : PlaceTones) → k < index → get_or tones k d ≡ place_tones windows (first + 8 * k))
    → one ≡ place_tones windows (first + 8 * index)
    → (k : ℕ) (d : PlaceTones) → k < index + 1 → get_or (set tones index one) k d ≡ place_tones windows (first + 8 * k)
eighth_more tones windows first index one inside h is k d below = elim (cases_eq k index) [
  | inl e ↦ ap (λ n. get_or (set tones index one) n d) e ∙ get_or-set_same tones index one d inside ∙ is
      ∙ ap (λ n. place_tones windows (first + 8 * n)) (sym e)
  | inr ne ↦ get_or-set_other tones index k one d ne ∙ h k d (omega arith)
]

-- ---- slot after slot

module _ (olds slots : List HeldSlot) (n : ℕ) (new : HeldSlot) (inside : n < length slots) where
  -- what holds of the first slots holds of one more
  pub slots_more : (P : ℕ → HeldSlot → HeldSlot → Type 0)
      → ((k : ℕ) (d : HeldSlot) → k < n → P k (get_or olds k d) (get_or slots k d))
      → ((d : HeldSlot) → P n (get_or olds n d) new)
      → (k : ℕ) (d : HeldSlot) → k < n + 1 → P k (get_or olds k d) (get_or (set slots n new) k d)
  slots_more P done one k d below = elim (cases_eq k n) [
    | inl e ↦ subst (λ m. P m (get_or olds m d) (get_or (set slots n new) m d)) (sym e)
        (subst (P n (get_or olds n d)) (sym (get_or-set_same slots n new d inside)) (one d))
    | inr ne ↦ subst (P k (get_or olds k d)) (sym (get_or-set_other slots n k new d ne)) (done k d (omega arith))
  ]

  -- and the others stay as they are
  pub slots_rest : ((k : ℕ) (d : HeldSlot) → n ≤ k → get_or slots k d ≡ get_or olds k d)
      → (k : ℕ) (d : HeldSlot) → n + 1 ≤ k → get_or (set slots n new) k d ≡ get_or olds k d
  slots_rest rest k d above =
      let ne : k ≢ n = omega arith in get_or-set_other slots n k new d ne ∙ rest k d (omega arith)

-- ---- three tones in one octet

alone_of : (alone near far : Tone) → tone_of Alone (packed alone near far) ≡ alone
alone_of Mark Mark Mark = refl
alone_of Mark Mark Space = refl
alone_of Mark Space Mark = refl
alone_of Mark Space Space = refl
alone_of Space Mark Mark = refl
alone_of Space Mark Space = refl
alone_of Space Space Mark = refl
alone_of Space Space Space = refl

near_of : (alone near far : Tone) → tone_of Near (packed alone near far) ≡ near
near_of Mark Mark Mark = refl
near_of Mark Mark Space = refl
near_of Mark Space Mark = refl
near_of Mark Space Space = refl
near_of Space Mark Mark = refl
near_of Space Mark Space = refl
near_of Space Space Mark = refl
near_of Space Space Space = refl

far_of : (alone near far : Tone) → tone_of Far (packed alone near far) ≡ far
far_of Mark Mark Mark = refl
far_of Mark Mark Space = refl
far_of Mark Space Mark = refl
far_of Mark Space Space = refl
far_of Space Mark Mark = refl
far_of Space Mark Space = refl
far_of Space Space Mark = refl
far_of Space Space Space = refl

-- the tone of a list is that which is decided in it
pub tone_of_place : (reach : Reach) (windows : ℕ → Correlations) (place : ℕ)
    → tone_of reach (place_tones windows place) ≡ tone_at reach windows place
tone_of_place Alone windows place = alone_of (tone_at Alone windows place) (tone_at Near windows place) (tone_at Far windows place)
tone_of_place Near windows place = near_of (tone_at Alone windows place) (tone_at Near windows place) (tone_at Far windows place)
tone_of_place Far windows place = far_of (tone_at Alone windows place) (tone_at Near windows place) (tone_at Far windows place)
