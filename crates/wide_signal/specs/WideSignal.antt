-- Samples at 48,000 a second near a signal. The filter in front of the receiver mixes the first and the last samples of a
-- transmission with what stands beside it, so one flag more is asked for at both ends.
use Rattle.std.specs.Prelude.{ℕ, ◌+◌, ◌-◌, ◌*◌, ◌/◌, ◌%◌, ◌≤◌, ℤ, List, [], ◌∷◌, length}
use Rattle.std.specs.List.{All}
use Rattle.nrzi_bits.specs.Line.{line}
use Rattle.hdlc_framer.specs.Frames.{IsFrame}
use Rattle.afsk_modulator.specs.Modulation.{IsBitPhase}
use Rattle.afsk_modulator.specs.Signal.{Transmission}
use Rattle.clean_signal.specs.GoodTransmission.{body_of}
use Rattle.clean_signal.specs.NearSignal.{Received}
use Rattle.wide_signal.specs.FineWave.{IsNearFine}

-- A transmission that a receiver at 48,000 samples a second can be held to: any frames, three flags before them and two
-- after them, from any phase at which a bit can begin, at any level at which rounding is little and nothing is cut off.
pub record IsWideReceived (r : Received) : Type 0 where
  pub frames : All IsFrame r.transmission.frames
  pub opening : 3 ≤ r.transmission.opening
  pub closing : 2 ≤ r.transmission.closing
  pub phase : IsBitPhase r.phase
  pub least : 500 ≤ r.level
  pub most : r.level ≤ 31000

-- where a transmission begins and ends, in samples at 9600 a second, if the one before it ended at a place
abbrev pub begin_of : ℕ → Received → ℕ
begin_of place r = place + r.transmission.silence

abbrev pub end_of : ℕ → Received → ℕ
end_of place r = begin_of place r + 8 * length (body_of r.transmission)

-- One transmission after the other, each after as many samples at 9600 a second as its silence, of any value. All begin at
-- the same remainder of five, at which their bits begin in one of the five streams of 9600 samples a second.
abbrev pub IsNearWide : ℕ → ℕ → List Received → List ℤ → Type 0
IsNearWide offset place [] x = Unit {0}
IsNearWide offset place (r ∷ received) x =
    (5 * end_of place r + offset ≤ length x)
    × IsNearFine r.level (5 * r.phase) (line (body_of r.transmission)) x (5 * begin_of place r + offset)
    × IsNearWide offset (end_of place r) received x

-- The same transmission without its first and its last flag, after more silence. A flag moves the phase by 40 steps of
-- 48, and the filter gives tones at 1.046 times their level.
abbrev pub trimmed : ℕ → Received → Received
trimmed more r = record {
  transmission = record {
    silence = r.transmission.silence + more;
    frames = r.transmission.frames;
    opening = r.transmission.opening - 1;
    closing = r.transmission.closing - 1;
  };
  phase = (r.phase + 40) % 48;
  level = 1071 * r.level / 1024;
}

-- All of them so: a flag, 64 samples, is left out before the first, and two between neighbours.
abbrev pub trimmed_after : ℕ → List Received → List Received
trimmed_after more [] = []
trimmed_after more (r ∷ received) = trimmed more r ∷ trimmed_after 128 received

abbrev pub inside : List Received → List Received
inside received = trimmed_after 64 received
