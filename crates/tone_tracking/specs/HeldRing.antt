-- What a ring of tones keeps, and what that stands for.
use Rattle.std.specs.Prelude.{◌≡◌, ℕ, ◌+◌, ◌-◌, ◌%◌, ◌<◌, List, slice_index_or}
use Rattle.tone_table.specs.declared.tone.Tone.{Tone}
use Rattle.tone_tracking.specs.declared.correlation.Correlations.{Correlations}
use Rattle.tone_tracking.specs.declared.reach.Reach.{Reach}
use Rattle.tone_tracking.specs.Heard.{tone_at}
use Rattle.tone_tracking.specs.HeldTracker.{tone_before}

-- which list it is, the next place, and the tones of the last 32 places, each where its place is modulo 32
pub record HeldRing : Type 0 where
  pub reach : Reach
  pub place : ℕ
  pub recent : List Tone

-- the ring has taken the tones of all places before its own
pub record StandsFor (held : HeldRing) (windows : ℕ → Correlations) : Type 0 where
  pub recent : (back : ℕ) (d : Tone) → back < 32
      → slice_index_or held.recent ((held.place + 31 - back) % 32) d ≡ tone_before (tone_at held.reach windows) held.place back
