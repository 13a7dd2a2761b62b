-- The gaps that a report tells, beside those that the readers were told of.
use Rattle.std.specs.Prelude.{◌≡◌, ℕ, ◌<◌, ◌==◌, if◌then◌else◌, List, [], ◌∷◌, ◌++◌}
use Rattle.std.specs.List.{flat_map}
use Rattle.slicer_bank.specs.declared.advance.LaneGap.{LaneGap}
use Rattle.slicer_bank.specs.HeardOnRing.{lane_of}
use Rattle.slicer_bank.specs.RingTurns.{gaps_of}
use Rattle.live_receiver.specs.Listening.{readers_wanted}
use Rattle.host_ports.specs.declared.report_line.ReportLine.{ReportLine}
use Rattle.host_ports.specs.declared.report_line.ReportLine.TheVariants.{GapLine, ClosedLine, ReceivedLine, SentLine}
use Rattle.host_ports.specs.declared.report_line.ReportLine.TheVariants.{KeyLine, HealthLine}
use Rattle.tnc_ports.specs.declared.serve_words.ServeWords.{ServeWords}
use Rattle.tnc_ports.specs.Sampled.{Live}

-- the gap of a lane that a line of the report tells
abbrev pub gap_by : ℕ → ReportLine → List LaneGap
gap_by lane (GapLine other from to) = if other == lane then (record { lane = other; from = from; to = to }) ∷ [] else []
gap_by lane (ClosedLine id) = []
gap_by lane (ReceivedLine text) = []
gap_by lane (SentLine text) = []
gap_by lane (KeyLine report) = []
gap_by lane (HealthLine note) = []

-- all gaps of a lane that a report tells, in order
abbrev pub gaps_in : ℕ → List ReportLine → List LaneGap
gaps_in lane lines = flat_map (gap_by lane) lines

-- The report tells of each reader all gaps that it was told of. Reader 0 to 7 is that of the lane of its number, and
-- reader 8 that of the added lanes: a gap of lane 8 is a gap of theirs.
abbrev pub AreAllGaps : ServeWords → Live → Type 0
AreAllGaps words live = (lane : ℕ) → lane < readers_wanted words.listening
    → gaps_in lane live.hosts.report ≡ gaps_of lane (lane_of live.lanes lane)

-- or the first of them
abbrev pub AreFirstGaps : ServeWords → Live → Type 0
AreFirstGaps words live = (lane : ℕ) → lane < readers_wanted words.listening
    → (more : List LaneGap) × (gaps_of lane (lane_of live.lanes lane) ≡ gaps_in lane live.hosts.report ++ more)
