-- When the windows of two ends fit each other (AX.25 2.2 section 6.4).
use Rattle.std.specs.Prelude.{◌≡◌, ℕ, ◌≤◌, ◌⊎◌}
use Rattle.selective_reject.specs.declared.window.Mode.TheVariants.{Srej}
use Rattle.selective_reject.specs.Window.{largest_window}
use Rattle.link_machine.specs.declared.params.Params.{Params}
use Rattle.link_machine.specs.Params.{HasWindows, mode_in, window_in}

-- a window in a modulus is at most half of it, as SREJ asks
abbrev pub IsHalf : ℕ → Params → Type 0
IsHalf modulus p = window_in modulus p ≤ largest_window modulus Srej

-- if one of the two keeps frames ahead of a gap in a modulus, the windows of both in it are at most half of it
abbrev pub AreHalves : ℕ → Params → Params → Type 0
AreHalves modulus a b =
    (mode_in modulus a ≡ Srej) ⊎ (mode_in modulus b ≡ Srej) → IsHalf modulus a × IsHalf modulus b

-- each end has windows of its modes, and in each modulus those of both fit each other
pub record WindowsFit (a b : Params) : Type 0 where
  pub of_a : HasWindows a
  pub of_b : HasWindows b
  pub narrow : AreHalves 8 a b
  pub wide : AreHalves 128 a b
