-- One turn of the readers of a receiver: how far each reads, and what it is told of gaps and of the end. A reader whose
-- samples go to added lanes reads in a turn as far as a lane does.
use Rattle.std.specs.Prelude.{◌≡◌, ◌↔◌, ℕ, ◌<◌, Bool, true, List, ◌++◌, length, slice_index_or}
use Rattle.std.specs.List.{All}
use Rattle.sample_ring.specs.declared.got.Got.{Got}
use Rattle.sample_ring.specs.declared.view.Entry.{Entry}
use Rattle.sample_ring.specs.declared.view.Track.{Track}
use Rattle.slicer_bank.specs.declared.advance.LaneGap.{LaneGap}
use Rattle.slicer_bank.specs.HeardOnRing.{lane_of}
use Rattle.slicer_bank.specs.RingTurns.{IsReading, MeetsEnd, gaps_from}

-- each of so many records has more reads
abbrev pub AreGrownBy : ℕ → List Track → List Track → Type 0
AreGrownBy count before now = (reader : ℕ) (d : Track) → reader < count
    → (reads : List Entry)
    × ((slice_index_or now reader d).reads ≡ (slice_index_or before reader d).reads ++ reads)

-- each of so many readers was answered more
pub record AreAnsweredMore (count : ℕ) (before reads now : List (List Got)) : Type 0 where
  pub count_before : length before ≡ count
  pub count_reads : length reads ≡ count
  pub count_now : length now ≡ count
  pub each : (reader : ℕ) → reader < count → lane_of now reader ≡ lane_of before reader ++ lane_of reads reader

-- So many readers made one turn: each read as far as a lane reads in a turn, these are all gaps that they were told of,
-- and `ended` says that each of them met the end. The gaps of the ninth reader are those of lane 8.
pub record IsTurnOf (count : ℕ) (before now : List (List Got)) (gaps : List LaneGap) (ended : Bool) : Type 0 where
  pub reads : List (List Got)
  pub longer : AreAnsweredMore count before reads now
  pub readings : All IsReading reads
  pub told : gaps ≡ gaps_from 0 reads
  pub over : (ended ≡ true) ↔ All MeetsEnd reads
