-- How a live station listens: with how many readers of the ring, by what it can be asked to hear other stations, what is
-- due of what its lanes hear, and when the channel is busy.
use Rattle.std.specs.Prelude.{ℕ, Bool, List}
use Rattle.sample_ring.specs.declared.got.Got.{Got}
use Rattle.frame_merge.specs.declared.candidate.Candidate.{Candidate}
use Rattle.slicer_bank.specs.declared.detection.Detection.{Detection}
use Rattle.slicer_bank.specs.declared.detection.Detection.TheVariants.{Flags, Tones}
use Rattle.slicer_bank.specs.Detection.{CanBeAsked}
use Rattle.slicer_bank.specs.HeardOnRing.{IsBusyOnRing, lane_of}
use Rattle.slicer_bank.specs.Stretches.{last_stretch}
use Rattle.hf_modem.specs.Busy.{HearsCarrier}
use Rattle.ring_receiver.specs.HeardByAll.{AreDueBy as AreDueByTones}
use Rattle.ring_receiver.specs.Readers.{readers_wanted as readers_of_tones}
use Rattle.fx25_ring.specs.HeardInBlocks.{AreDueInBlocks, HearsStation}
use Rattle.live_receiver.specs.declared.listening.Listening.{Listening}
use Rattle.live_receiver.specs.declared.listening.Listening.TheVariants.{Bell202, ShortWave, Fx25}
use Rattle.live_receiver.specs.HeardOnShortWave.{AreDue}

-- One reader for each of the eight lanes of Bell 202, and one that all added lanes share; one for all lanes of short wave,
-- and one for all that read blocks.
abbrev pub readers_wanted : Listening → ℕ
readers_wanted (Bell202 sensitive) = readers_of_tones sensitive
readers_wanted (ShortWave sensitive) = 1
readers_wanted (Fx25 sensitive) = 1

-- on short wave, and where blocks are read, other stations are heard by flags in a row alone
abbrev pub CanBeAskedBy : Listening → Detection → Type 0
CanBeAskedBy (Bell202 sensitive) detection = CanBeAsked detection
CanBeAskedBy (ShortWave sensitive) (Flags count) = CanBeAsked (Flags count)
CanBeAskedBy (ShortWave sensitive) Tones = ⊥
CanBeAskedBy (Fx25 sensitive) (Flags count) = CanBeAsked (Flags count)
CanBeAskedBy (Fx25 sensitive) Tones = ⊥

-- what is due of what the lanes hear, by all that their readers were answered before a turn and after it
abbrev pub AreDueBy : Listening → Bool → List (List Got) → List (List Got) → List Candidate → Type 0
AreDueBy (Bell202 sensitive) ended before now items = AreDueByTones sensitive ended before now items
AreDueBy (ShortWave sensitive) ended before now items = AreDue sensitive ended (lane_of before 0) (lane_of now 0) items
AreDueBy (Fx25 sensitive) ended before now items =
    AreDueInBlocks sensitive ended (lane_of before 0) (lane_of now 0) items

-- another station is heard: by one of the eight lanes in its last stretch, or by one of the 32 lanes of short wave; where
-- blocks are read, also by a block that comes in
abbrev pub IsBusyBy : Listening → Detection → List (List Got) → Type 0
IsBusyBy (Bell202 sensitive) detection lanes = IsBusyOnRing detection lanes
IsBusyBy (ShortWave sensitive) (Flags count) lanes = HearsCarrier count (last_stretch (lane_of lanes 0)).samples
IsBusyBy (ShortWave sensitive) Tones lanes = ⊥
IsBusyBy (Fx25 sensitive) (Flags count) lanes = HearsStation count (last_stretch (lane_of lanes 0))
IsBusyBy (Fx25 sensitive) Tones lanes = ⊥
