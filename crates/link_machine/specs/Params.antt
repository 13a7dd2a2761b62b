-- What a link is made with (AX.25 2.2 sections 4.2, 6.3.1, 6.4 and 6.7): how it asks for lost frames and its window k,
-- each in both moduli, in which modulus it calls, and T1 and the most retries. Only windows are refused: every T1 and
-- every count of retries makes a link.
use Rattle.std.specs.Prelude.{◌≡◌, ℕ, ◌==◌, false, ◌⊎◌, if◌then◌else◌}
use Rattle.selective_reject.specs.declared.window.Mode.{Mode}
use Rattle.selective_reject.specs.declared.window.Mode.TheVariants.{Rej, Srej}
use Rattle.selective_reject.specs.Window.{IsWindow, IsBadWindow}
use Rattle.link_machine.specs.declared.params.Params.{Params}

abbrev pub default_params : Params
default_params = record {
  mode = Rej;
  window = 4;
  wide = false;
  wide_mode = Srej;
  wide_window = 32;
  t1 = 200;
  retries = 10;
}

-- k in a modulus
abbrev pub window_in : ℕ → Params → ℕ
window_in modulus params = if modulus == 128 then params.wide_window else params.window

-- how lost frames are asked for in a modulus
abbrev pub mode_in : ℕ → Params → Mode
mode_in modulus params = if modulus == 128 then params.wide_mode else params.mode

-- the modulus of a call: a wide link calls in 128
abbrev pub called_modulus : Params → ℕ
called_modulus params = if params.wide then 128 else 8

-- each window fits its modulus, in the mode of that modulus
abbrev pub HasWindows : Params → Type 0
HasWindows params = IsWindow 8 params.window params.mode × IsWindow 128 params.wide_window params.wide_mode

-- The window that is refused: the first that does not fit. `window` is asked first, then `wide_window`.
abbrev pub IsRefusedWindow : Params → ℕ → Type 0
IsRefusedWindow params refused =
    ((refused ≡ params.window) × IsBadWindow 8 params.window params.mode)
    ⊎ (
    IsWindow 8 params.window params.mode
    × (refused ≡ params.wide_window)
    × IsBadWindow 128 params.wide_window params.wide_mode
    )
