-- A ring of tones, one place on.
use Rattle.tone_tracking.proofs.Common.{◌≡◌, ℕ, ◌+◌, ◌-◌, ◌%◌, List, length, set, replicate, sym, ◌∙◌, arith}
use Rattle.tone_tracking.proofs.Common.{get_or-replicate, Tone, Mark, Correlations, tone_at}
use Rattle.tone_tracking.specs.declared.reach.Reach.{Reach}
use Rattle.tone_tracking.specs.HeldRing.{HeldRing, StandsFor}
use Rattle.tone_tracking.proofs.TrackerLemmas.{recent_more, tone_before-outside}

abbrev pub ring : Reach → ℕ → List Tone → HeldRing
ring reach place recent = record { reach = reach; place = place; recent = recent }

-- a ring before place 0
pub ring_first : (reach : Reach) (windows : ℕ → Correlations) → StandsFor (ring reach 0 (replicate 32 Mark)) windows
ring_first reach windows = record {
  recent = λ back d small. get_or-replicate 32 ((0 + 31 - back) % 32) Mark d (omega arith)
      ∙ sym (tone_before-outside (tone_at reach windows) 0 back (omega arith));
}

-- a ring that takes the tone of its place
pub ring_next : (reach : Reach) (place : ℕ) (recent : List Tone) (windows : ℕ → Correlations) (tone : Tone)
    → length recent ≡ 32 → StandsFor (ring reach place recent) windows → tone ≡ tone_at reach windows place
    → StandsFor (ring reach (place + 1) (set recent (place % 32) tone)) windows
ring_next reach place recent windows tone enough h is = record {
  recent = recent_more (tone_at reach windows) place recent tone enough h.recent is;
}
