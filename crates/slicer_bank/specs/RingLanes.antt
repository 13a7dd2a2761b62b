-- What a bank of eight lanes that read a ring keeps, what contracts see of its readers, and what its lanes stand for.
use Rattle.std.specs.Prelude.{◌≡◌, ℕ, ◌<◌, Bool, false, List, map, slice_index_or}
use Rattle.sample_ring.specs.declared.got.Got.{Got}
use Rattle.sample_ring.specs.declared.reader.Reader.{Reader}
use Rattle.sample_ring.specs.declared.view.Track.{Track}
use Rattle.sample_ring.specs.Ends.{position_of, record_of, reads_of}
use Rattle.sample_ring.specs.Record.{answer}
use Rattle.slicer_bank.specs.declared.detection.Detection.{Detection}
use Rattle.slicer_bank.specs.declared.ring_lane.RingLane.{RingLane}
use Rattle.slicer_bank.specs.StretchLanes.{StretchStandsFor, ListensAs}
use Rattle.slicer_bank.specs.Stretches.{last_stretch}
use Rattle.slicer_bank.specs.RingTurns.{Leads}

pub record HeldRingBank : Type 0 where
  pub lanes : List RingLane
  pub detection : Detection
  pub spent : Bool

-- all that a reader of a ring of `len` cells was answered
abbrev pub answers_of : ℕ → Reader → List Got
answers_of len reader = map (answer len) (reads_of reader)

-- the readers of lanes, and all that each of them was answered
abbrev pub readers_of : List RingLane → List Reader
readers_of lanes = map (λ lane. lane.reader) lanes

abbrev pub answers_by : ℕ → List RingLane → List (List Got)
answers_by len lanes = map (answers_of len) (readers_of lanes)

-- the readers of a bank, in the order of its lanes
abbrev pub readers_in : HeldRingBank → List Reader
readers_in bank = readers_of bank.lanes

-- their records, and their positions
abbrev pub records_in : HeldRingBank → List Track
records_in bank = map record_of (readers_in bank)

abbrev pub positions_in : HeldRingBank → List ℕ
positions_in bank = map position_of (readers_in bank)

-- all that each lane of a bank was answered
abbrev pub answers_in : ℕ → HeldRingBank → List (List Got)
answers_in len bank = map (answers_of len) (readers_in bank)

-- a lane listens as it is asked to and has heard its last stretch, and its answers lead to its position
pub record LaneListens (len : ℕ) (detection : Detection) (offset : ℕ) (lane : RingLane) : Type 0 where
  pub place : lane.lane.offset ≡ offset
  pub asked : ListensAs detection lane.lane
  pub lead : Leads 0 (answers_of len lane.reader) (position_of lane.reader)
  pub stands : StretchStandsFor lane.lane (last_stretch (answers_of len lane.reader))

-- each of eight lanes has heard all that its reader was answered
abbrev pub LanesListen : ℕ → Detection → List RingLane → Type 0
LanesListen len detection lanes = (lane : ℕ) (d : RingLane) → lane < 8
    → LaneListens len detection lane (slice_index_or lanes lane d)

-- so have the lanes of a bank, and every growth that the bank wanted was given
pub record Listens (len : ℕ) (bank : HeldRingBank) : Type 0 where
  pub spent : bank.spent ≡ false
  pub lanes : LanesListen len bank.detection bank.lanes
