-- Samples near a signal of FX.25, and the units that were sent in them. Receivers differ in level, they add noise, and
-- before a transmission and after it stands whatever they hear.
use Rattle.std.specs.Prelude.{◌≡◌, ℕ, ◌+◌, ◌*◌, ◌≤◌, ℤ, Bool, List, [], ◌∷◌, ◌++◌, length, Option, Some, None}
use Rattle.std.specs.List.{All, flat_map}
use Rattle.tone_table.specs.Wave.{wave_from}
use Rattle.nrzi_bits.specs.Line.{line}
use Rattle.hdlc_framer.specs.Frames.{IsFrame}
use Rattle.offset_slicers.specs.Near.{IsNear}
use Rattle.afsk_modulator.specs.Modulation.{IsBitPhase}
use Rattle.afsk_modulator.specs.Signal.{Transmission}
use Rattle.fx25_blocks.specs.Blocks.{bits_needed}
use Rattle.fx25_sender.specs.Transmission.{fx25_body}
use Rattle.fx25_sender.specs.Units.{last_tag}
use Rattle.fx25_signal.specs.Units.{SentUnit, unit_end}

-- a transmission whose frames have so many check octets, as it is received: the phase at which its wave begins, and its
-- level
pub record ReceivedBlocks : Type 0 where
  pub checks : ℕ
  pub transmission : Transmission
  pub phase : ℕ
  pub level : ℕ

-- Any silence and any number of frames, from any phase at which a bit can begin. The line before the first flag is not
-- known, so a flag opens the units.
pub record IsReceived (r : ReceivedBlocks) : Type 0 where
  pub frames : All IsFrame r.transmission.frames
  pub opening : 1 ≤ r.transmission.opening
  pub phase : IsBitPhase r.phase
  pub least : 1 ≤ r.level

-- the flags and units of a transmission
abbrev pub body_of : ReceivedBlocks → List Bool
body_of r = fx25_body r.checks r.transmission.frames r.transmission.opening r.transmission.closing

-- For each transmission as many samples as its silence, of any value, and then samples near its wave; any samples
-- follow.
abbrev pub IsNearAll : List ReceivedBlocks → List ℤ → Type 0
IsNearAll [] x = Unit {0}
IsNearAll (r ∷ received) x =
    (gap : List ℤ) × (part : List ℤ) × (rest : List ℤ) × (x ≡ gap ++ (part ++ rest))
    × (length gap ≡ r.transmission.silence) × IsNear r.level (wave_from r.phase (line (body_of r))) part
    × IsNearAll received rest

-- the frames of all transmissions, in order
abbrev pub frames_of : List ReceivedBlocks → List (List ℕ)
frames_of received = flat_map (λ r. r.transmission.frames) received

-- ---- units

abbrev pub number_of : Option ℕ → ℕ
number_of None = 0
number_of (Some tag) = tag

-- the tag of a frame's block with so many check octets, or 0 if it fits into none
abbrev pub tag_of : ℕ → List ℕ → ℕ
tag_of checks octets = number_of (last_tag checks (bits_needed octets) 11)

abbrev pub unit_of : ℕ → ℕ → List ℕ → SentUnit
unit_of checks begin octets = record { begin = begin; tag = tag_of checks octets; octets = octets }

-- units one after another, from a sample on
abbrev pub units_from : ℕ → ℕ → List (List ℕ) → List SentUnit
units_from checks begin [] = []
units_from checks begin (octets ∷ frames) =
    unit_of checks begin octets ∷ units_from checks (unit_end (unit_of checks begin octets)) frames

-- the units of transmissions, one after the other, from a sample on: silence and opening flags, 64 samples each, stand
-- before those of each
abbrev pub sent_units_from : ℕ → List ReceivedBlocks → List SentUnit
sent_units_from begin [] = []
sent_units_from begin (r ∷ received) =
    units_from r.checks (begin + r.transmission.silence + 64 * r.transmission.opening) r.transmission.frames
    ++ sent_units_from (begin + r.transmission.silence + 8 * length (body_of r)) received

abbrev pub sent_units : List ReceivedBlocks → List SentUnit
sent_units received = sent_units_from 0 received
