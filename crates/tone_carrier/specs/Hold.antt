-- For how many windows more a carrier is held, whatever they are: a count by which a receiver knows whether a carrier
-- is shown, and keeps nothing of the windows before.
use Rattle.std.specs.Prelude.{ℕ, zero, suc, ◌-◌, ◌==◌, ◌&&◌, ◌||◌, nat_lt, nat_le, List, length, if◌then◌else◌}
use Rattle.tone_carrier.specs.declared.heard_window.HeardWindow.{HeardWindow}
use Rattle.tone_carrier.specs.Evidence.{evidence, most_evidence}
use Rattle.tone_carrier.specs.Tones.{kept_evidence, most_windows}

-- the hold with one window more, by the evidence after it: full evidence finds a carrier, and less keeps one
abbrev pub hold_with : ℕ → ℕ → ℕ
hold_with hold evidence =
    if (evidence == most_evidence) || (nat_lt 0 hold && nat_le kept_evidence evidence)
    then most_windows
    else hold - 1

-- the hold after window k, none after window 0
unfoldable pub hold : List HeardWindow → ℕ → ℕ
hold windows zero = 0
hold windows (suc k) = hold_with (hold windows k) (evidence windows (suc k))

-- the hold after the last window
abbrev pub last_hold : List HeardWindow → ℕ
last_hold windows = hold windows (length windows - 1)
