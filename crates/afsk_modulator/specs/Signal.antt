-- A signal: transmissions, one after the other, each after silence (AX.25 2.2 section 3 over Bell 202).
use Rattle.std.specs.Prelude.{ℕ, ℤ, pos, List, ◌++◌, replicate}
use Rattle.std.specs.List.{flat_map}
use Rattle.afsk_modulator.specs.Level.{at_level}
use Rattle.afsk_modulator.specs.Transmission.{transmission}

-- frames that are sent at one go, with the count of silent samples before them and of the flags round them
pub record Transmission : Type 0 where
  pub silence : ℕ
  pub frames : List (List ℕ)
  pub opening : ℕ
  pub closing : ℕ

-- the samples of one: the silent ones, which are 0, and then those of its flags and frames
abbrev pub samples_of : Transmission → List ℤ
samples_of t = replicate t.silence (pos 0) ++ transmission t.frames t.opening t.closing

-- the samples of all of them, in order
unfoldable pub signal : List Transmission → List ℤ
signal transmissions = flat_map samples_of transmissions

-- the same at a level
unfoldable pub signal_at : ℕ → List Transmission → List ℤ
signal_at level transmissions = at_level level (signal transmissions)
