-- Samples near a signal of 300 bits a second. Receivers differ in level, they add noise, and before a transmission and
-- after it stands whatever they hear.
use Rattle.std.specs.Prelude.{◌≡◌, ◌≤◌, ℤ, List, [], ◌∷◌, ◌++◌, length}
use Rattle.nrzi_bits.specs.Line.{line}
use Rattle.offset_slicers.specs.Near.{IsNear}
use Rattle.clean_signal.specs.GoodTransmission.{IsTransmission, body_of}
use Rattle.clean_signal.specs.NearSignal.{Received}
use Rattle.hf_sender.specs.Wave.{wave_from, IsBitPhase}

-- A good transmission, from any phase at which a bit can begin, at any level that sixteen bits can hold.
pub record IsReceived (r : Received) : Type 0 where
  pub transmission : IsTransmission r.transmission
  pub phase : IsBitPhase r.phase
  pub least : 1 ≤ r.level
  pub most : r.level ≤ 32767

-- For each transmission as many samples as its silence, of any value, and then samples near its wave; any samples
-- follow.
abbrev pub IsNearAll : List Received → List ℤ → Type 0
IsNearAll [] x = Unit {0}
IsNearAll (r ∷ received) x =
    (gap : List ℤ) × (part : List ℤ) × (rest : List ℤ) × (x ≡ gap ++ (part ++ rest))
    × (length gap ≡ r.transmission.silence)
    × IsNear r.level (wave_from r.phase (line (body_of r.transmission))) part × IsNearAll received rest
