-- What the code keeps of the reader of the sound, of what is counted and of the sound that goes out. No public clause cites this.
use Rattle.std.specs.Prelude.{◌≡◌, ℕ, Bool, List, [], ◌∷◌, ◌++◌, Option, Some, None}
use Rattle.sample_ring.specs.declared.got.Got.{Got}
use Rattle.sample_ring.specs.declared.reader.Reader.{Reader}
use Rattle.sample_ring.specs.declared.ring.Ring.{Ring}
use Rattle.sample_ring.specs.Ends.{GoesForward, IsNew, position_of, reader_ring, ring_id}
use Rattle.sample_ring.specs.Record.{next}
use Rattle.live_receiver.specs.declared.receiver.LiveReceiver.{LiveReceiver}
use Rattle.live_receiver.specs.LiveReceivers.{answers_in}
use Rattle.slicer_bank.specs.RingLanes.{answers_of}
use Rattle.slicer_bank.specs.RingTurns.{reads_on}
use Rattle.tnc_ports.specs.declared.meter.Meter.{Meter}
use Rattle.host_ports.specs.Health.{after_answer, new_health}
use Rattle.sound_rate.specs.declared.rate.Rate.{Rate}
use Rattle.sound_rate.specs.HeldRates.{HasMade}
use Rattle.tnc_ports.specs.Measured.{place_after}
use Rattle.tnc_ports.specs.Sampled.{Live}

-- the reader was answered once more, which is counted
pub record ReadsOnce (len : ℕ) (on : Bool) (before after : Meter) : Type 0 where
  pub got : Got
  pub answers : answers_of len after.reader ≡ answers_of len before.reader ++ got ∷ []
  pub place : position_of after.reader ≡ next got
  pub forward : GoesForward (position_of before.reader) got
  pub health : after.health ≡ after_answer before.health got
  pub out : after.out ≡ before.out
  pub goes_on : on ≡ reads_on got

-- the reader of the sound, which has read nothing of a ring
abbrev pub IsFreshSound : Ring → Option Reader → Type 0
IsFreshSound ring None = ⊥
IsFreshSound ring (Some reader) = (reader_ring reader ≡ ring_id ring) × IsNew reader

-- the reader of the sound is one of a ring
abbrev pub IsSoundOf : Ring → Option Reader → Type 0
IsSoundOf ring None = ⊥
IsSoundOf ring (Some reader) = reader_ring reader ≡ ring_id ring

-- the answers of the readers of a receiver, and then those of the reader of the sound
abbrev pub answers_with : ℕ → LiveReceiver → Reader → List (List Got)
answers_with len receiver reader = answers_in len receiver ++ answers_of len reader ∷ []

abbrev pub answers_if : ℕ → LiveReceiver → Option Reader → List (List Got)
answers_if len receiver None = answers_in len receiver
answers_if len receiver (Some reader) = answers_with len receiver reader

-- the meter stands for what a run was answered, has counted and has made to be sent at a rate
pub record Measures (len : ℕ) (rate : Rate) (meter : Meter) (live : Live) : Type 0 where
  pub sound : answers_of len meter.reader ≡ live.sound
  pub place : position_of meter.reader ≡ place_after 0 live.sound
  pub health : meter.health ≡ live.health
  pub made : HasMade rate meter.out live.samples

-- and its reader was perhaps answered more
abbrev pub HasMeasured : ℕ → Meter → Live → Type 0
HasMeasured len meter live = (more : List Got) × (answers_of len meter.reader ≡ live.sound ++ more)
