-- Windows (AX.25 2.2 sections 4.2 and 6.4): how many frames a sender may have under way.
use Rattle.std.specs.Prelude.{◌≡◌, ℕ, ◌-◌, ◌/◌, ◌<◌, ◌≤◌, ◌⊎◌}
use Rattle.selective_reject.specs.declared.window.Mode.{Mode}
use Rattle.selective_reject.specs.declared.window.Mode.TheVariants.{Rej, Srej}

-- A window of the whole modulus could not be told from none. If frames that come ahead of a gap are kept, a repeat
-- must not be taken for a later one.
abbrev pub largest_window : ℕ → Mode → ℕ
largest_window modulus Rej = modulus - 1
largest_window modulus Srej = modulus / 2

abbrev pub IsWindow : ℕ → ℕ → Mode → Type 0
IsWindow modulus window mode = (1 ≤ window) × (window ≤ largest_window modulus mode)

abbrev pub IsBadWindow : ℕ → ℕ → Mode → Type 0
IsBadWindow modulus window mode = (window ≡ 0) ⊎ (largest_window modulus mode < window)

-- the windows of a receiver in this mode and of the sender fit the modulus
abbrev pub AreFitting : ℕ → ℕ → ℕ → Mode → Type 0
AreFitting modulus window sender mode = IsWindow modulus window mode × IsWindow modulus sender mode
