-- Samples near a signal. Receivers differ in level, they add noise, and before a transmission and after it stands
-- whatever they hear.
use Rattle.std.specs.Prelude.{◌≡◌, ℕ, ◌≤◌, ℤ, List, [], ◌∷◌, ◌++◌, length, map}
use Rattle.tone_table.specs.Wave.{wave_from}
use Rattle.nrzi_bits.specs.Line.{line}
use Rattle.offset_slicers.specs.Near.{IsNear}
use Rattle.afsk_modulator.specs.Modulation.{IsBitPhase}
use Rattle.afsk_modulator.specs.Signal.{Transmission}
use Rattle.clean_signal.specs.GoodTransmission.{IsTransmission, body_of}

-- a transmission as it is received: the phase at which its wave begins, and its level
pub record Received : Type 0 where
  pub transmission : Transmission
  pub phase : ℕ
  pub level : ℕ

-- A good transmission, from any phase at which a bit can begin, at any level that sixteen bits can hold.
pub record IsReceived (r : Received) : Type 0 where
  pub transmission : IsTransmission r.transmission
  pub phase : IsBitPhase r.phase
  pub least : 1 ≤ r.level
  pub most : r.level ≤ 32767

abbrev pub transmissions_of : List Received → List Transmission
transmissions_of received = map (λ r. r.transmission) received

-- For each transmission as many samples as its silence, of any value, and then samples near its wave; any samples
-- follow.
abbrev pub IsNearAll : List Received → List ℤ → Type 0
IsNearAll [] x = Unit {0}
IsNearAll (r ∷ received) x =
    (gap : List ℤ) × (part : List ℤ) × (rest : List ℤ) × (x ≡ gap ++ (part ++ rest))
    × (length gap ≡ r.transmission.silence)
    × IsNear r.level (wave_from r.phase (line (body_of r.transmission))) part × IsNearAll received rest

-- transmissions that all begin at phase 0 and have one level, as a sender gives them
abbrev pub sent_at : ℕ → List Transmission → List Received
sent_at level transmissions = map (λ t. record { transmission = t; phase = 0; level = level }) transmissions
