-- What contracts see of a receiver of a live station, in whatever way it listens.
use Rattle.std.specs.Prelude.{ℕ, List, [], ◌∷◌, map}
use Rattle.sample_ring.specs.declared.got.Got.{Got}
use Rattle.sample_ring.specs.declared.reader.Reader.{Reader}
use Rattle.sample_ring.specs.declared.view.Track.{Track}
use Rattle.sample_ring.specs.Ends.{record_of}
use Rattle.slicer_bank.specs.declared.detection.Detection.{Detection}
use Rattle.slicer_bank.specs.declared.detection.Detection.TheVariants.{Flags}
use Rattle.slicer_bank.specs.RingLanes.{answers_of}
use Rattle.ring_receiver.specs.HeldReceiver.{EightListen, Hears as HearsTones, readers_in as readers_of_tones}
use Rattle.fx25_ring.specs.Held.{BlocksHeard, BlockLanesListen, flags_of_blocks, sensitive_of_blocks}
use Rattle.live_receiver.specs.declared.listening.Listening.{Listening}
use Rattle.live_receiver.specs.declared.listening.Listening.TheVariants.{Bell202, ShortWave, Fx25}
use Rattle.live_receiver.specs.declared.receiver.LiveReceiver.{LiveReceiver}
use Rattle.live_receiver.specs.declared.receiver.LiveReceiver.TheVariants.{Bell202 as OfBell202, ShortWave as OfShortWave, Fx25 as OfFx25}
use Rattle.live_receiver.specs.HeldHf.{HfHears, HfLanesListen, flags_of_hf, sensitive_of_hf}

-- how it listens
abbrev pub listening_of : LiveReceiver → Listening
listening_of (OfBell202 receiver) = Bell202 receiver.sensitive
listening_of (OfShortWave receiver) = ShortWave (sensitive_of_hf receiver)
listening_of (OfFx25 receiver) = Fx25 (sensitive_of_blocks receiver)

-- by what it hears other stations
abbrev pub detection_of : LiveReceiver → Detection
detection_of (OfBell202 receiver) = receiver.detection
detection_of (OfShortWave receiver) = Flags (flags_of_hf receiver)
detection_of (OfFx25 receiver) = Flags (flags_of_blocks receiver)

-- its readers
abbrev pub readers_in : LiveReceiver → List Reader
readers_in (OfBell202 receiver) = readers_of_tones receiver
readers_in (OfShortWave receiver) = receiver.reader ∷ []
readers_in (OfFx25 receiver) = receiver.reader ∷ []

-- their records
abbrev pub records_in : LiveReceiver → List Track
records_in receiver = map record_of (readers_in receiver)

-- all that each of them was answered
abbrev pub answers_in : ℕ → LiveReceiver → List (List Got)
answers_in len receiver = map (answers_of len) (readers_in receiver)

-- The lanes by which it hears other stations have heard all that their readers were answered. This is so after the end of
-- the ring, too.
abbrev pub LanesListen : ℕ → LiveReceiver → Type 0
LanesListen len (OfBell202 receiver) = EightListen len receiver
LanesListen len (OfShortWave receiver) = HfLanesListen len receiver
LanesListen len (OfFx25 receiver) = BlockLanesListen len receiver

-- All lanes have heard all that their readers were answered, and what is settled was given. The ring has not ended, and
-- all memory that was wanted was given.
abbrev pub Hears : ℕ → LiveReceiver → Type 0
Hears len (OfBell202 receiver) = HearsTones len receiver
Hears len (OfShortWave receiver) = HfHears len receiver
Hears len (OfFx25 receiver) = BlocksHeard len receiver
