-- What the lists keep, with one sample more.
use Rattle.tone_tracking.proofs.Common.{◌≡◌, ◌≢◌, ℕ, ◌+◌, ◌-◌, ◌%◌, ◌<◌, ◌≤◌, ℤ, pos, List, length, get_or, set}
use Rattle.tone_tracking.proofs.Common.{replicate, sym, ap, subst, ◌∙◌, arith, inl, inr, get_or-set_same}
use Rattle.tone_tracking.proofs.Common.{get_or-set_other, All, cases_eq, cases_lt, length-set, get_or-replicate}
use Rattle.tone_tracking.proofs.Common.{Correlations, correlations, none, unsigned_abs, places_in, HeldTracker, HeldLists, HasSamples}
use Rattle.tone_tracking.proofs.Common.{HasTaken}
use Rattle.std.proofs.lemmas.List.{length-replicate}
use Rattle.tone_tracking.specs.Correlation.{AreWithin}
use Rattle.tone_tracking.specs.HeldTracker.{StandsFor as TrackerStandsFor}
use Rattle.tone_tracking.specs.HeldLists.{HasDecided}
use Rattle.tone_tracking.proofs.CorrelationLemmas.{correlations-agree}
use Rattle.tone_tracking.proofs.PhasorLemmas.{within_none as phasor_within_none}

abbrev pub held : ℕ → List ℤ → List Correlations → HeldTracker → HeldTracker → HeldTracker → HeldLists
held count samples recent alone near far = record {
  count = count;
  samples = samples;
  recent = recent;
  alone = alone;
  near = near;
  far = far;
}

-- a tracker that decides no place with a sample more
pub still_decided : (tracker : HeldTracker) (count more : ℕ) (x : List ℤ) → places_in more ≡ places_in count
    → HasDecided tracker count x → HasDecided tracker more x
still_decided tracker count more x same h = record { place = h.place ∙ sym same; stands_for = h.stands_for }

-- samples with one more, written where its number is modulo 8 and again eight on
abbrev pub with_next : ℕ → List ℤ → ℤ → List ℤ
with_next count samples sample = set (set samples (count % 8) sample) (count % 8 + 8) sample

module _ (count : ℕ) (samples : List ℤ) (recent : List Correlations) (x : List ℤ) (sample : ℤ)
    (first second third : HeldTracker)
    (h : HasSamples (held count samples recent first second third) x) (room : count < length x)
    (is : sample ≡ get_or x count (pos 0)) (wide : length samples ≡ 16) where
  abbrev once : List ℤ
  once = set samples (count % 8) sample

  abbrev next : List ℤ
  next = with_next count samples sample

  once_next : (n : ℕ) → n < count + 1 → count + 1 ≤ n + 8 → get_or next (n % 8) (pos 0) ≡ get_or x n (pos 0)
  once_next n before late = elim (cases_eq n count) [
    | inl e ↦ (let slot : n % 8 ≡ count % 8 = ap (λ k. k % 8) e in
        let apart : count % 8 ≢ count % 8 + 8 = omega arith in
        ap (λ k. get_or next k (pos 0)) slot
        ∙ get_or-set_other once (count % 8 + 8) (count % 8) sample (pos 0) apart
        ∙ get_or-set_same samples (count % 8) sample (pos 0) (omega arith)
        ∙ is ∙ ap (λ k. get_or x k (pos 0)) (sym e))
    | inr ne ↦ (let apart : n % 8 ≢ count % 8 + 8 = omega arith in
        let other_slot : n % 8 ≢ count % 8 = omega arith in
        get_or-set_other once (count % 8 + 8) (n % 8) sample (pos 0) apart
        ∙ get_or-set_other samples (count % 8) (n % 8) sample (pos 0) other_slot
        ∙ h.once n (omega arith) (omega arith))
  ]

  again_next : (n : ℕ) → n < count + 1 → count + 1 ≤ n + 8 → get_or next (n % 8 + 8) (pos 0) ≡ get_or x n (pos 0)
  again_next n before late = elim (cases_eq n count) [
    | inl e ↦ (let slot : n % 8 + 8 ≡ count % 8 + 8 = ap (λ k. k % 8 + 8) e in
        let size = length-set samples (count % 8) sample in
        ap (λ k. get_or next k (pos 0)) slot
        ∙ get_or-set_same once (count % 8 + 8) sample (pos 0) (omega arith)
        ∙ is ∙ ap (λ k. get_or x k (pos 0)) (sym e))
    | inr ne ↦ (let apart : n % 8 + 8 ≢ count % 8 + 8 = omega arith in
        let other_slot : n % 8 + 8 ≢ count % 8 = omega arith in
        get_or-set_other once (count % 8 + 8) (n % 8 + 8) sample (pos 0) apart
        ∙ get_or-set_other samples (count % 8) (n % 8 + 8) sample (pos 0) other_slot
        ∙ h.again n (omega arith) (omega arith))
  ]

  -- the eight after the slot of the next sample are the last eight
  pub last_eight : (i : ℕ) → i < 8 → 8 ≤ count + 1
      → get_or next ((count % 8 + 1) + i) (pos 0) ≡ get_or x ((count + 1 - 8) + i) (pos 0)
  last_eight i small enough = elim (cases_lt ((count % 8 + 1) + i) 8) [
    | inl low ↦ (let at : (count % 8 + 1) + i ≡ ((count + 1 - 8) + i) % 8 = omega arith in
        ap (λ k. get_or next k (pos 0)) at ∙ once_next ((count + 1 - 8) + i) (omega arith) (omega arith))
    | inr high ↦ (let at : (count % 8 + 1) + i ≡ ((count + 1 - 8) + i) % 8 + 8 = omega arith in
        ap (λ k. get_or next k (pos 0)) at ∙ again_next ((count + 1 - 8) + i) (omega arith) (omega arith))
  ]

  -- before the eighth sample there are no correlations
  pub samples_few : (alone near far : HeldTracker) → count + 1 < 8
      → HasSamples (held (count + 1) next recent alone near far) x
  samples_few alone near far few = record {
    within = omega arith;
    once = once_next;
    again = again_next;
    recent = λ place d inside _. absurd (omega arith);
  }

  -- and then one more
  pub samples_more : (alone near far : HeldTracker) (window : List ℤ) (c : Correlations) → 8 ≤ count + 1
      → length recent ≡ 32
      → ((i : ℕ) → i < 8 → get_or window i (pos 0) ≡ get_or next ((count % 8 + 1) + i) (pos 0))
      → c ≡ correlations window 0
      → HasSamples (held (count + 1) next (set recent ((count + 1 - 8) % 32) c) alone near far) x
  samples_more alone near far window c enough size from c_is = record {
    within = omega arith;
    once = once_next;
    again = again_next;
    recent = λ place d inside late. elim (cases_eq place (count + 1 - 8)) [
      | inl e ↦ (let slot : place % 32 ≡ (count + 1 - 8) % 32 = ap (λ k. k % 32) e in
          ap (λ k. get_or (set recent ((count + 1 - 8) % 32) c) k d) slot
          ∙ get_or-set_same recent ((count + 1 - 8) % 32) c d (omega arith)
          ∙ c_is ∙ correlations-agree window x 0 place (λ i small.
          let none : 0 + i ≡ i = omega arith in
          let at : (count + 1 - 8) + i ≡ place + i = omega arith in
          ap (λ k. get_or window k (pos 0)) none ∙ from i small ∙ last_eight i small enough
          ∙ ap (λ k. get_or x k (pos 0)) at))
      | inr ne ↦ (let apart : place % 32 ≢ (count + 1 - 8) % 32 = omega arith in
          get_or-set_other recent ((count + 1 - 8) % 32) (place % 32) c d apart
          ∙ h.recent place d (omega arith) (omega arith))
    ];
  }

-- the correlations that a tracker is given are those of its place
pub kept_at : (held : HeldLists) (x : List ℤ) (d : Correlations) (place now : ℕ) → HasSamples held x → now ≡ place
    → place + 8 ≤ held.count → held.count < place + 40
    → get_or held.recent (now % 32) d ≡ correlations x place
kept_at held x d place now h same inside late = ap (λ k. get_or held.recent (k % 32) d) same
    ∙ h.recent place d inside late

-- a tracker that has decided one place more
pub decided_more : (was now : HeldTracker) (count : ℕ) (x : List ℤ) (a b c : Correlations) → 24 ≤ count + 1
    → HasDecided was count x
    → a ≡ correlations x (count + 1 - 24) → b ≡ correlations x (count + 1 - 16) → c ≡ correlations x (count + 1 - 8)
    → now.place ≡ was.place + 1
    → ((windows : ℕ → Correlations) → TrackerStandsFor was windows → a ≡ windows was.place → b ≡ windows (was.place + 8)
    → c ≡ windows (was.place + 16) → TrackerStandsFor now windows)
    → HasDecided now (count + 1) x
decided_more was now count x a b c enough h a_is b_is c_is more step =
    let p = h.place in
    let one : count + 1 - 24 ≡ was.place = omega arith in
    let two : count + 1 - 16 ≡ was.place + 8 = omega arith in
    let three : count + 1 - 8 ≡ was.place + 16 = omega arith in
    record {
      place = omega arith;
      stands_for = step (correlations x) h.stands_for (a_is ∙ ap (correlations x) one) (b_is ∙ ap (correlations x) two)
          (c_is ∙ ap (correlations x) three);
    }

-- correlations are bounded as before if one is set
pub all_within-set : (recent : List Correlations) (at : ℕ) (c : Correlations) → All AreWithin recent → AreWithin c
    → All AreWithin (set recent at c)
all_within-set recent at c all one k d inside = elim (cases_eq k at) [
  | inl e ↦ (let size = length-set recent at c in
      subst AreWithin (sym (ap (λ i. get_or (set recent at c) i d) e ∙ get_or-set_same recent at c d (omega arith)))
      one)
  | inr ne ↦ (let size = length-set recent at c in
      subst AreWithin (sym (get_or-set_other recent at k c d ne)) (all k d (omega arith)))
]

-- no samples are taken
pub taken_none : (x : List ℤ) (samples : List ℤ) (recent : List Correlations) (alone near far : HeldTracker)
    → alone.place ≡ 0 → near.place ≡ 0 → far.place ≡ 0
    → TrackerStandsFor alone (correlations x) → TrackerStandsFor near (correlations x)
    → TrackerStandsFor far (correlations x)
    → HasTaken (held 0 samples recent alone near far) x
taken_none x samples recent alone near far alone_place near_place far_place alone_stands near_stands far_stands
    = record {
      samples = record {
        within = omega arith;
        once = λ n before late. absurd (omega arith);
        again = λ n before late. absurd (omega arith);
        recent = λ place d inside late. absurd (omega arith);
      };
      alone = record { place = alone_place; stands_for = alone_stands };
      near = record { place = near_place; stands_for = near_stands };
      far = record { place = far_place; stands_for = far_stands };
    }

-- the correlations of silence are bounded
pub within_none : AreWithin (record { mark = none; space = none })
within_none = record { mark = phasor_within_none 297000000; space = phasor_within_none 297000000 }

pub all_within-none : All AreWithin (replicate 32 (record { mark = none; space = none }))
all_within-none k d inside = subst AreWithin
    (sym (get_or-replicate 32 k (record { mark = none; space = none }) d inside)) within_none

-- samples stay small with one more, written twice
pub all_small-set : (most : ℕ) (samples : List ℤ) (at : ℕ) (sample : ℤ) → All (λ s. unsigned_abs s ≤ most) samples
    → unsigned_abs sample ≤ most → All (λ s. unsigned_abs s ≤ most) (set samples at sample)
all_small-set most samples at sample all one k d inside = elim (cases_eq k at) [
  | inl e ↦ (let size = length-set samples at sample in
      subst (λ s. unsigned_abs s ≤ most)
      (sym (ap (λ i. get_or (set samples at sample) i d) e ∙ get_or-set_same samples at sample d (omega arith))) one)
  | inr ne ↦ (let size = length-set samples at sample in
      subst (λ s. unsigned_abs s ≤ most) (sym (get_or-set_other samples at k sample d ne)) (all k d (omega arith)))
]

pub all_small-next : (most count : ℕ) (samples : List ℤ) (sample : ℤ) → All (λ s. unsigned_abs s ≤ most) samples
    → unsigned_abs sample ≤ most → All (λ s. unsigned_abs s ≤ most) (with_next count samples sample)
all_small-next most count samples sample all one =
    all_small-set most (set samples (count % 8) sample) (count % 8 + 8) sample
    (all_small-set most samples (count % 8) sample all one) one

-- no samples are small
pub all_small-none : (most count : ℕ) → All (λ s. unsigned_abs s ≤ most) (replicate count (pos 0))
all_small-none most count k d inside =
    subst (λ s. unsigned_abs s ≤ most) (sym (get_or-replicate count k (pos 0) d (let size = length-replicate count (pos 0) in omega arith)))
    (omega arith)
