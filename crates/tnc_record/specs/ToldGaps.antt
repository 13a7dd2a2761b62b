-- The gaps that a report tells, beside those that the readers were told of.
use Rattle.std.specs.Prelude.{◌≡◌, ℕ, ◌<◌, ◌==◌, if◌then◌else◌, Bool, List, [], ◌∷◌, ◌++◌}
use Rattle.std.specs.List.{flat_map}
use Rattle.slicer_bank.specs.declared.advance.LaneGap.{LaneGap}
use Rattle.slicer_bank.specs.HeardOnRing.{lane_of}
use Rattle.slicer_bank.specs.RingTurns.{gaps_of}
use Rattle.ring_receiver.specs.Readers.{readers_wanted}
use Rattle.tnc_record.specs.RecordText.{Line, GapLine, FrameLine, LostLine}
use Rattle.tnc_record.specs.RecordTurns.{Recording}

-- the gap of a lane that a line tells
abbrev pub gap_by : ℕ → Line → List LaneGap
gap_by lane (GapLine gap) = if gap.lane == lane then gap ∷ [] else []
gap_by lane (FrameLine item) = []
gap_by lane (LostLine loss) = []

-- all gaps of a lane that lines tell, in order
abbrev pub gaps_in : ℕ → List Line → List LaneGap
gaps_in lane lines = flat_map (gap_by lane) lines

-- The report tells of each reader of the receiver all gaps that it was told of. Reader 8 is that of the added lanes.
abbrev pub AreAllGaps : Bool → Recording → Type 0
AreAllGaps sensitive recording = (lane : ℕ) → lane < readers_wanted sensitive
    → gaps_in lane recording.lines ≡ gaps_of lane (lane_of recording.lanes lane)

-- or the first of them
abbrev pub AreFirstGaps : Bool → Recording → Type 0
AreFirstGaps sensitive recording = (lane : ℕ) → lane < readers_wanted sensitive
    → (more : List LaneGap) × (gaps_of lane (lane_of recording.lanes lane) ≡ gaps_in lane recording.lines ++ more)
