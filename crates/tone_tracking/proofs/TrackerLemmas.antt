-- The past and the tones of a tracker, one place on.
use Rattle.tone_tracking.proofs.Common.{◌≡◌, ◌≢◌, ℕ, zero, suc, ◌+◌, ◌-◌, ◌*◌, ◌/◌, ◌%◌, ◌<◌, ◌≤◌, List, length, get_or}
use Rattle.tone_tracking.proofs.Common.{set, replicate, sym, ap, ◌∙◌, arith, inl, inr, get_or-set_same}
use Rattle.tone_tracking.proofs.Common.{get_or-set_other, if◌then◌else◌, cases_eq, cases_lt, get_or-replicate, Tone}
use Rattle.tone_tracking.proofs.Common.{Mark, Phasor, Correlations, none, decided, open_of, passed, past_at, tone_at}
use Rattle.tone_tracking.proofs.Common.{HeldTracker, StandsFor, tone_before}
use Rattle.std.proofs.lemmas.Bool.{lt-ltb, le-ltb}
use Rattle.tone_tracking.specs.declared.reach.Reach.{Reach}
use Rattle.tone_tracking.specs.Heard.{tone_after, past_of}

-- the past one window on
pub past_at-next : (reach : Reach) (windows : ℕ → Correlations) (place : ℕ)
    → past_at reach windows (place + 8) ≡ passed reach (tone_at reach windows place) (windows place)
    (past_at reach windows place)
unfolding past_at past_of tone_at
past_at-next reach windows place =
    let first : (place + 8) % 8 ≡ place % 8 = omega arith in
    let more : (place + 8) / 8 ≡ suc (place / 8) = omega arith in
    let at : place % 8 + 8 * (place / 8) ≡ place = omega arith in
    let past : Phasor = past_of reach windows (place % 8) (place / 8) in
    (λ i. past_of reach windows (first i) (more i))
    ∙ ap (λ p. passed reach (tone_after reach windows p past) (windows p) past) at

-- no window lies before the first eight places
pub past_at-first : (reach : Reach) (windows : ℕ → Correlations) (place : ℕ) → place < 8
    → past_at reach windows place ≡ none
unfolding past_at past_of
past_at-first reach windows place small =
    let zeroth : place / 8 ≡ 0 = omega arith in
    ap (past_of reach windows (place % 8)) zeroth

pub tone_before-within : (tones : ℕ → Tone) (count back : ℕ) → back < count
    → tone_before tones count back ≡ tones (count - 1 - back)
tone_before-within tones count back within = ap (λ b. if b then tones (count - 1 - back) else Mark)
    (lt-ltb back count within)

pub tone_before-outside : (tones : ℕ → Tone) (count back : ℕ) → count ≤ back → tone_before tones count back ≡ Mark
tone_before-outside tones count back outside = ap (λ b. if b then tones (count - 1 - back) else Mark)
    (le-ltb back count outside)

-- the tone one further back, with one place more
pub tone_before-more : (tones : ℕ → Tone) (count back : ℕ)
    → tone_before tones (count + 1) (back + 1) ≡ tone_before tones count back
tone_before-more tones count back = elim (cases_lt back count) [
  | inl within ↦ tone_before-within tones (count + 1) (back + 1) (omega arith)
      ∙ ap tones (let e : count + 1 - 1 - (back + 1) ≡ count - 1 - back = omega arith in e)
      ∙ sym (tone_before-within tones count back within)
  | inr outside ↦ tone_before-outside tones (count + 1) (back + 1) (omega arith)
      ∙ sym (tone_before-outside tones count back outside)
]

pub tone_before-last : (tones : ℕ → Tone) (count : ℕ) → tone_before tones (count + 1) 0 ≡ tones count
tone_before-last tones count = tone_before-within tones (count + 1) 0 (omega arith)
    ∙ ap tones (let e : count + 1 - 1 - 0 ≡ count = omega arith in e)

-- the last 32 tones with that of a place more
pub recent_more : (tones : ℕ → Tone) (place : ℕ) (recent : List Tone) (tone : Tone) → length recent ≡ 32
    → ((back : ℕ) (d : Tone) → back < 32
    → get_or recent ((place + 31 - back) % 32) d ≡ tone_before tones place back)
    → tone ≡ tones place → (back : ℕ) (d : Tone) → back < 32
    → get_or (set recent (place % 32) tone) ((place + 1 + 31 - back) % 32) d ≡ tone_before tones (place + 1) back
recent_more tones place recent tone enough h tone_is zero d small =
    let slot : (place + 1 + 31 - 0) % 32 ≡ place % 32 = omega arith in
    ap (λ k. get_or (set recent (place % 32) tone) k d) slot
    ∙ get_or-set_same recent (place % 32) tone d (omega arith)
    ∙ tone_is ∙ sym (tone_before-last tones place)
recent_more tones place recent tone enough h tone_is (suc back) d small =
    let slot : (place + 1 + 31 - suc back) % 32 ≡ (place + 31 - back) % 32 = omega arith in
    let other : (place + 31 - back) % 32 ≢ place % 32 = omega arith in
    let one : back + 1 ≡ suc back = omega arith in
    ap (λ k. get_or (set recent (place % 32) tone) k d) slot
    ∙ get_or-set_other recent (place % 32) ((place + 31 - back) % 32) tone d other
    ∙ h back d (omega arith) ∙ sym (tone_before-more tones place back)
    ∙ ap (tone_before tones (place + 1)) one

abbrev pub held : Reach → ℕ → List Phasor → List Tone → HeldTracker
held reach place pasts recent = record { reach = reach; place = place; pasts = pasts; recent = recent }

-- a tracker at place 0
pub stands_first : (reach : Reach) (windows : ℕ → Correlations)
    → StandsFor (held reach 0 (replicate 8 none) (replicate 32 Mark)) windows
stands_first reach windows = record {
  pasts = λ j d small. get_or-replicate 8 ((0 + j) % 8) none d (omega arith)
      ∙ sym (past_at-first reach windows (0 + j) (omega arith));
  recent = λ back d small. get_or-replicate 32 ((0 + 31 - back) % 32) Mark d (omega arith)
      ∙ sym (tone_before-outside (tone_at reach windows) 0 back (omega arith));
}

module _ (reach : Reach) (place : ℕ) (pasts : List Phasor) (recent : List Tone) (windows : ℕ
    → Correlations) (past : Phasor) (tone : Tone)
    (eight : length pasts ≡ 8) (enough : length recent ≡ 32) (h : StandsFor (held reach place pasts recent) windows)
    (tone_is : tone ≡ tone_at reach windows place) (past_is : past ≡ past_at reach windows (place + 8)) where
  next_pasts : (j : ℕ) (d : Phasor) → j < 8 → get_or (set pasts (place % 8) past) ((place + 1 + j) % 8) d
      ≡ past_at reach windows (place + 1 + j)
  next_pasts j d small = elim (cases_eq j 7) [
    | inl e ↦ (let slot : (place + 1 + j) % 8 ≡ place % 8 = omega arith in
        let at : place + 8 ≡ place + 1 + j = omega arith in
        ap (λ k. get_or (set pasts (place % 8) past) k d) slot ∙ get_or-set_same pasts (place % 8) past d (omega arith)
        ∙ past_is ∙ ap (past_at reach windows) at)
    | inr ne ↦ (let slot : (place + 1 + j) % 8 ≡ (place + (j + 1)) % 8 = omega arith in
        let other : (place + (j + 1)) % 8 ≢ place % 8 = omega arith in
        let at : place + (j + 1) ≡ place + 1 + j = omega arith in
        ap (λ k. get_or (set pasts (place % 8) past) k d) slot
        ∙ get_or-set_other pasts (place % 8) ((place + (j + 1)) % 8) past d other
        ∙ h.pasts (j + 1) d (omega arith) ∙ ap (past_at reach windows) at)
  ]

  next_recent : (back : ℕ) (d : Tone) → back < 32
      → get_or (set recent (place % 32) tone) ((place + 1 + 31 - back) % 32) d
      ≡ tone_before (tone_at reach windows) (place + 1) back
  next_recent = recent_more (tone_at reach windows) place recent tone enough h.recent tone_is

  -- a place more is decided
  pub stands_next : StandsFor (held reach (place + 1) (set pasts (place % 8) past) (set recent (place % 32) tone))
      windows
  stands_next = record { pasts = next_pasts; recent = next_recent }

-- the past that is kept for the next place
pub past_here : (reach : Reach) (place : ℕ) (pasts : List Phasor) (recent : List Tone) (windows : ℕ → Correlations)
    → StandsFor (held reach place pasts recent) windows → get_or pasts (place % 8) none ≡ past_at reach windows place
past_here reach place pasts recent windows h =
    let at : place + 0 ≡ place = omega arith in
    ap (λ p. get_or pasts (p % 8) none) (sym at) ∙ h.pasts 0 none (omega arith) ∙ ap (past_at reach windows) at

-- and so the tone that is decided there
pub tone_is_decided : (reach : Reach) (place : ℕ) (pasts : List Phasor) (recent : List Tone) (windows : ℕ
    → Correlations) (now next later : Correlations) (tone : Tone)
    → StandsFor (held reach place pasts recent) windows → now ≡ windows place → next ≡ windows (place + 8)
    → later ≡ windows (place + 16)
    → tone ≡ decided (get_or pasts (place % 8) none) now (open_of reach next later) → tone ≡ tone_at reach windows place
unfolding tone_at
tone_is_decided reach place pasts recent windows now next later tone h now_is next_is later_is is =
    is ∙ (λ i. decided (past_here reach place pasts recent windows h i) (now_is i)
    (open_of reach (next_is i) (later_is i)))
