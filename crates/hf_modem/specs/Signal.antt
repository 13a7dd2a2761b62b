-- A signal: transmissions, one after the other, each after silence (AX.25 2.2 section 3 on short wave).
use Rattle.std.specs.Prelude.{ℕ, ℤ, pos, List, ◌++◌, replicate}
use Rattle.std.specs.List.{flat_map}
use Rattle.afsk_modulator.specs.Signal.{Transmission}
use Rattle.hf_sender.specs.Transmission.{hf_transmission}

-- the samples of one transmission at a level: the silent ones, which are 0, and then those of its flags and frames
abbrev pub hf_samples_of : ℕ → Transmission → List ℤ
hf_samples_of level t = replicate t.silence (pos 0) ++ hf_transmission level t.frames t.opening t.closing

-- the samples of all of them, in order
unfoldable pub hf_signal : ℕ → List Transmission → List ℤ
hf_signal level transmissions = flat_map (hf_samples_of level) transmissions
