-- What a tone tracker keeps, and what that stands for.
use Rattle.std.specs.Prelude.{◌≡◌, ℕ, ◌+◌, ◌-◌, ◌%◌, ◌<◌, List, nat_lt, if◌then◌else◌, slice_index_or}
use Rattle.tone_table.specs.declared.tone.Tone.{Tone}
use Rattle.tone_table.specs.declared.tone.Tone.TheVariants.{Mark}
use Rattle.tone_tracking.specs.declared.phasor.Phasor.{Phasor}
use Rattle.tone_tracking.specs.declared.correlation.Correlations.{Correlations}
use Rattle.tone_tracking.specs.declared.reach.Reach.{Reach}
use Rattle.tone_tracking.specs.Heard.{past_at, tone_at}

-- how far it reaches, the next place, the past at it and at the seven places after it, and the tones of the last 32
-- places, each past and each tone where its place is modulo 8 and 32
pub record HeldTracker : Type 0 where
  pub reach : Reach
  pub place : ℕ
  pub pasts : List Phasor
  pub recent : List Tone

-- The tone so many places before the last of the first `count` places. Before the first place the line stands at mark.
abbrev pub tone_before : (ℕ → Tone) → ℕ → ℕ → Tone
tone_before tones count back = if nat_lt back count then tones (count - 1 - back) else Mark

-- the tracker has decided the windows at all places before its own
pub record StandsFor (held : HeldTracker) (windows : ℕ → Correlations) : Type 0 where
  pub pasts : (j : ℕ) (d : Phasor) → j < 8 → slice_index_or held.pasts ((held.place + j) % 8) d
      ≡ past_at held.reach windows (held.place + j)
  pub recent : (back : ℕ) (d : Tone) → back < 32
      → slice_index_or held.recent ((held.place + 31 - back) % 32) d
      ≡ tone_before (tone_at held.reach windows) held.place back
