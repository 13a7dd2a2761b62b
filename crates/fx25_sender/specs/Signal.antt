-- A signal: transmissions of FX.25, one after the other, each after silence.
use Rattle.std.specs.Prelude.{ℕ, ℤ, pos, List, ◌++◌, replicate}
use Rattle.std.specs.List.{flat_map}
use Rattle.afsk_modulator.specs.Signal.{Transmission}
use Rattle.fx25_sender.specs.Transmission.{fx25_transmission}

-- the samples of one transmission at a level: the silent ones, which are 0, and then those of its flags and units
abbrev pub fx25_samples_of : ℕ → ℕ → Transmission → List ℤ
fx25_samples_of checks level t = replicate t.silence (pos 0)
    ++ fx25_transmission checks level t.frames t.opening t.closing

-- the samples of all of them, in order
unfoldable pub fx25_signal : ℕ → ℕ → List Transmission → List ℤ
fx25_signal checks level transmissions = flat_map (fx25_samples_of checks level) transmissions
