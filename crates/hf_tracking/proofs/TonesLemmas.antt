-- What a bank's tones keep, with one sample more.
use Rattle.hf_tracking.proofs.Common.{◌≡◌, ◌≢◌, ℕ, ◌+◌, ◌-◌, ◌*◌, ◌%◌, ◌<◌, ◌≤◌, ℤ, pos, List, [], ◌∷◌, ◌++◌}
use Rattle.hf_tracking.proofs.Common.{length, drop, get_or, set, replicate, sym, ap, subst, ◌∙◌, arith, inl, inr}
use Rattle.hf_tracking.proofs.Common.{get_or-set_same, get_or-set_other, get_or-replicate, length-set, cases_eq, cases_lt}
use Rattle.hf_tracking.proofs.Common.{All, AreSmall, Correlations, correlations, none, windows_in, HeldTracker}
use Rattle.hf_tracking.proofs.Common.{HeldTones, HasSamples, HasTaken, TrackerStandsFor}
use Rattle.std.proofs.Common.{get_or-append-add}
use Rattle.std.proofs.lemmas.List.{length-replicate, length-drop, get_or-drop, get_or_append_left}

abbrev pub held : ℕ → ℕ → List ℤ → List Correlations → HeldTracker → HeldTones
held bank count samples recent tracker = record {
  bank = bank;
  count = count;
  samples = samples;
  recent = recent;
  tracker = tracker;
}

-- the samples with the next one in place of the first
abbrev pub shifted : List ℤ → ℤ → List ℤ
shifted samples sample = drop 1 samples ++ sample ∷ []

module _ (bank count : ℕ) (samples : List ℤ) (recent : List Correlations) (tracker : HeldTracker) (x : List ℤ) (sample : ℤ)
    (h : HasSamples (held bank count samples recent tracker) x) (room : count < length x)
    (is : sample ≡ get_or x count (pos 0)) (wide : length samples ≡ 32) where
  pub last_next : (i : ℕ) → i < 32 → 32 ≤ count + 1 + i
      → get_or (shifted samples sample) i (pos 0) ≡ get_or x (count + 1 + i - 32) (pos 0)
  last_next i small enough =
      let size : length (drop 1 samples) ≡ 31 = length-drop 1 samples ∙ omega arith in
      elim (cases_lt i 31) [
        | inl lt ↦ (let at : count + (i + 1) - 32 ≡ count + 1 + i - 32 = omega arith in
            get_or_append_left (drop 1 samples) (sample ∷ []) (pos 0) i (omega arith)
            ∙ get_or-drop 1 samples i (pos 0)
            ∙ ap (λ k. get_or samples k (pos 0)) (let e : 1 + i ≡ i + 1 = omega arith in e)
            ∙ h.last (i + 1) (omega arith) (omega arith)
            ∙ ap (λ k. get_or x k (pos 0)) at)
        | inr ge ↦ (let at : i ≡ length (drop 1 samples) + 0 = omega arith in
            let there : count ≡ count + 1 + i - 32 = omega arith in
            ap (λ k. get_or (shifted samples sample) k (pos 0)) at
            ∙ get_or-append-add (drop 1 samples) (sample ∷ []) 0 (pos 0)
            ∙ is ∙ ap (λ k. get_or x k (pos 0)) there)
      ]

  -- no window ends with the sample
  pub samples_few : (now : HeldTracker) → windows_in (count + 1) ≡ windows_in count
      → HasSamples (held bank (count + 1) (shifted samples sample) recent now) x
  samples_few now few = record {
    within = omega arith;
    last = last_next;
    recent = λ place d inside late. h.recent place d (omega arith) (omega arith);
  }

  -- one does
  pub samples_more : (now : HeldTracker) (place : ℕ) (c : Correlations) → 32 ≤ count + 1 → count + 1 ≡ 4 * place + 32
      → length recent ≡ 32
      → ((y : List ℤ) → ((i : ℕ) → i < 32 → get_or (shifted samples sample) i (pos 0) ≡ get_or y (4 * place + i) (pos 0))
      → c ≡ correlations bank y place)
      → HasSamples (held bank (count + 1) (shifted samples sample) (set recent (place % 32) c) now) x
  samples_more now place c enough at size sums = record {
    within = omega arith;
    last = last_next;
    recent = λ p d inside late. elim (cases_eq p place) [
      | inl e ↦ (let slot : p % 32 ≡ place % 32 = ap (λ k. k % 32) e in
          ap (λ k. get_or (set recent (place % 32) c) k d) slot
          ∙ get_or-set_same recent (place % 32) c d (omega arith)
          ∙ sums x (λ i small.
          let there : count + 1 + i - 32 ≡ 4 * place + i = omega arith in
          last_next i small (omega arith) ∙ ap (λ k. get_or x k (pos 0)) there)
          ∙ ap (correlations bank x) (sym e))
      | inr ne ↦ (let other : p % 32 ≢ place % 32 = omega arith in
          get_or-set_other recent (place % 32) (p % 32) c d other
          ∙ h.recent p d (omega arith) (omega arith))
    ];
  }

-- the correlations that are kept of a place
pub kept_at : (all : HeldTones) (x : List ℤ) (place : ℕ) (d : Correlations) → HasSamples all x
    → place < windows_in all.count → windows_in all.count ≤ place + 32
    → get_or all.recent (place % 32) d ≡ correlations all.bank x place
kept_at all x place d h inside late = h.recent place d inside late

-- no samples are taken
pub taken_none : (x : List ℤ) (bank : ℕ) (samples : List ℤ) (recent : List Correlations) (tracker : HeldTracker)
    → tracker.place ≡ 0 → TrackerStandsFor tracker (correlations bank x)
    → HasTaken (held bank 0 samples recent tracker) x
taken_none x bank samples recent tracker place stands = record {
  samples = record {
    within = omega arith;
    last = λ i small enough. absurd (omega arith);
    recent = λ p d inside late. absurd (omega arith);
  };
  place = place;
  stands_for = stands;
}

-- correlations stay small if one is set
pub all_small-set : (recent : List Correlations) (at : ℕ) (c : Correlations) → All AreSmall recent → AreSmall c
    → All AreSmall (set recent at c)
all_small-set recent at c all one k d inside = elim (cases_eq k at) [
  | inl e ↦ (let size = length-set recent at c in
      subst AreSmall (sym (ap (λ i. get_or (set recent at c) i d) e ∙ get_or-set_same recent at c d (omega arith)))
      one)
  | inr ne ↦ (let size = length-set recent at c in
      subst AreSmall (sym (get_or-set_other recent at k c d ne)) (all k d (omega arith)))
]

-- those of silence are
pub small_none : AreSmall (record { mark = none; space = none })
small_none = record {
  mark = record { first = omega arith; second = omega arith };
  space = record { first = omega arith; second = omega arith };
}

pub all_small-none : All AreSmall (replicate 32 (record { mark = none; space = none }))
all_small-none k d inside =
    let silence : Correlations = record { mark = none; space = none } in
    let size = length-replicate 32 silence in
    subst AreSmall (sym (get_or-replicate 32 k silence d (omega arith))) small_none
