-- The tracks and the tones of a tracker, one place on.
use Rattle.hf_tracking.proofs.Common.{◌≡◌, ◌≢◌, ℕ, zero, suc, ◌+◌, ◌-◌, ◌*◌, ◌/◌, ◌%◌, ◌<◌, List, length, get_or}
use Rattle.hf_tracking.proofs.Common.{set, replicate, sym, ap, ◌∙◌, arith, inl, inr, get_or-set_same}
use Rattle.hf_tracking.proofs.Common.{get_or-set_other, cases_eq, get_or-replicate, Tone}
use Rattle.hf_tracking.proofs.Common.{Mark, Correlations, tone_before, Track, no_track, decided, next_track, track_at}
use Rattle.hf_tracking.proofs.Common.{tone_at, HeldTracker, TrackerStandsFor}
use Rattle.tone_tracking.proofs.TrackerLemmas.{tone_before-outside, tone_before-more, tone_before-last}
use Rattle.hf_tracking.specs.Heard.{tone_after, track_of}

-- the track one window on
pub track_at-next : (windows : ℕ → Correlations) (place : ℕ)
    → track_at windows (place + 8) ≡ next_track (tone_at windows place) (windows place) (track_at windows place)
unfolding track_at track_of tone_at
track_at-next windows place =
    let first : (place + 8) % 8 ≡ place % 8 = omega arith in
    let more : (place + 8) / 8 ≡ suc (place / 8) = omega arith in
    let at : place % 8 + 8 * (place / 8) ≡ place = omega arith in
    let track : Track = track_of windows (place % 8) (place / 8) in
    (λ i. track_of windows (first i) (more i))
    ∙ ap (λ p. next_track (tone_after windows p track) (windows p) track) at

-- no window lies before the first eight places
pub track_at-first : (windows : ℕ → Correlations) (place : ℕ) → place < 8 → track_at windows place ≡ no_track
unfolding track_at track_of
track_at-first windows place small =
    let zeroth : place / 8 ≡ 0 = omega arith in
    ap (track_of windows (place % 8)) zeroth

abbrev pub held : ℕ → List Track → List Tone → HeldTracker
held place tracks recent = record { place = place; tracks = tracks; recent = recent }

-- a tracker at place 0
pub stands_first : (windows : ℕ → Correlations)
    → TrackerStandsFor (held 0 (replicate 8 no_track) (replicate 32 Mark)) windows
stands_first windows = record {
  tracks = λ j d small. get_or-replicate 8 ((0 + j) % 8) no_track d (omega arith)
      ∙ sym (track_at-first windows (0 + j) (omega arith));
  recent = λ back d small. get_or-replicate 32 ((0 + 31 - back) % 32) Mark d (omega arith)
      ∙ sym (tone_before-outside (tone_at windows) 0 back (omega arith));
}

module _ (place : ℕ) (tracks : List Track) (recent : List Tone) (windows : ℕ
    → Correlations) (track : Track) (tone : Tone)
    (eight : length tracks ≡ 8) (enough : length recent ≡ 32) (h : TrackerStandsFor (held place tracks recent) windows)
    (tone_is : tone ≡ tone_at windows place) (track_is : track ≡ track_at windows (place + 8)) where
  next_tracks : (j : ℕ) (d : Track) → j < 8 → get_or (set tracks (place % 8) track) ((place + 1 + j) % 8) d
      ≡ track_at windows (place + 1 + j)
  next_tracks j d small = elim (cases_eq j 7) [
    | inl e ↦ (let slot : (place + 1 + j) % 8 ≡ place % 8 = omega arith in
        let at : place + 8 ≡ place + 1 + j = omega arith in
        ap (λ k. get_or (set tracks (place % 8) track) k d) slot
        ∙ get_or-set_same tracks (place % 8) track d (omega arith)
        ∙ track_is ∙ ap (track_at windows) at)
    | inr ne ↦ (let slot : (place + 1 + j) % 8 ≡ (place + (j + 1)) % 8 = omega arith in
        let other : (place + (j + 1)) % 8 ≢ place % 8 = omega arith in
        let at : place + (j + 1) ≡ place + 1 + j = omega arith in
        ap (λ k. get_or (set tracks (place % 8) track) k d) slot
        ∙ get_or-set_other tracks (place % 8) ((place + (j + 1)) % 8) track d other
        ∙ h.tracks (j + 1) d (omega arith) ∙ ap (track_at windows) at)
  ]

  next_recent : (back : ℕ) (d : Tone) → back < 32
      → get_or (set recent (place % 32) tone) ((place + 1 + 31 - back) % 32) d
      ≡ tone_before (tone_at windows) (place + 1) back
  next_recent zero d small =
      let slot : (place + 1 + 31 - 0) % 32 ≡ place % 32 = omega arith in
      ap (λ k. get_or (set recent (place % 32) tone) k d) slot
      ∙ get_or-set_same recent (place % 32) tone d (omega arith)
      ∙ tone_is ∙ sym (tone_before-last (tone_at windows) place)
  next_recent (suc back) d small =
      let slot : (place + 1 + 31 - suc back) % 32 ≡ (place + 31 - back) % 32 = omega arith in
      let other : (place + 31 - back) % 32 ≢ place % 32 = omega arith in
      let one : back + 1 ≡ suc back = omega arith in
      ap (λ k. get_or (set recent (place % 32) tone) k d) slot
      ∙ get_or-set_other recent (place % 32) ((place + 31 - back) % 32) tone d other
      ∙ h.recent back d (omega arith) ∙ sym (tone_before-more (tone_at windows) place back)
      ∙ ap (tone_before (tone_at windows) (place + 1)) one

  -- a place more is decided
  pub stands_next : TrackerStandsFor (held (place + 1) (set tracks (place % 8) track) (set recent (place % 32) tone))
      windows
  stands_next = record { tracks = next_tracks; recent = next_recent }

-- the track that is kept for the next place
pub track_here : (place : ℕ) (tracks : List Track) (recent : List Tone) (windows : ℕ → Correlations)
    → TrackerStandsFor (held place tracks recent) windows → get_or tracks (place % 8) no_track ≡ track_at windows place
track_here place tracks recent windows h =
    let at : place + 0 ≡ place = omega arith in
    ap (λ p. get_or tracks (p % 8) no_track) (sym at) ∙ h.tracks 0 no_track (omega arith) ∙ ap (track_at windows) at

-- and so the tone that is decided there
pub tone_is_decided : (place : ℕ) (tracks : List Track) (recent : List Tone) (windows : ℕ
    → Correlations) (now next later : Correlations) (tone : Tone)
    → TrackerStandsFor (held place tracks recent) windows → now ≡ windows place → next ≡ windows (place + 8)
    → later ≡ windows (place + 16)
    → tone ≡ decided (get_or tracks (place % 8) no_track) now next later → tone ≡ tone_at windows place
unfolding tone_at
tone_is_decided place tracks recent windows now next later tone h now_is next_is later_is is =
    is ∙ (λ i. decided (track_here place tracks recent windows h i) (now_is i) (next_is i) (later_is i))
