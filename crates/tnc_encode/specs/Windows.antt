-- The windows that a transmission of Bell 202 can have. No public clause cites it.
use Rattle.std.specs.Prelude.{◌≡◌, ℕ, ◌*◌, ℤ, List, map}
use Rattle.std.specs.List.{range_with_len}
use Rattle.tone_table.specs.declared.tone.Tone.{Tone}
use Rattle.tone_table.specs.declared.tone.Tone.TheVariants.{Mark, Space}
use Rattle.afsk_modulator.specs.Modulation.{tone_window}
use Rattle.tnc_encode.specs.declared.windows.Windows.{Windows}

-- the window of a tone that begins at a sixth of a cycle
abbrev pub window_at : ℕ → Tone → ℕ → List ℤ
window_at level tone sixth = tone_window (record { phase = 8 * sixth; level = level }) tone

-- those of the six
unfoldable pub windows_of : ℕ → Tone → List (List ℤ)
windows_of level tone = map (window_at level tone) (range_with_len 0 6)

-- the windows of a level
pub record AreWindows (level : ℕ) (windows : Windows) : Type 0 where
  pub mark : windows.mark ≡ windows_of level Mark
  pub space : windows.space ≡ windows_of level Space
