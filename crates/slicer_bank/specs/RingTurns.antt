-- One turn of eight lanes that each read a ring: how far each reads, and what it is told of gaps and of the end.
use Rattle.std.specs.Prelude.{◌≡◌, ◌↔◌, ℕ, ◌+◌, ◌<◌, ◌≤◌, ◌⊎◌, Bool, true, false, List, [], ◌∷◌, ◌++◌, length}
use Rattle.std.specs.Prelude.{slice_index, slice_index_or}
use Rattle.std.specs.List.{All, Contains}
use Rattle.sample_ring.specs.declared.got.Got.{Got}
use Rattle.sample_ring.specs.declared.got.Got.TheVariants.{Item, Gap, Empty, End}
use Rattle.sample_ring.specs.declared.view.Entry.{Entry}
use Rattle.sample_ring.specs.declared.view.Track.{Track}
use Rattle.sample_ring.specs.Ends.{GoesForward}
use Rattle.sample_ring.specs.Record.{next}
use Rattle.frame_merge.specs.declared.candidate.Candidate.{Candidate}
use Rattle.slicer_bank.specs.declared.advance.LaneGap.{LaneGap}
use Rattle.slicer_bank.specs.HeardOnRing.{lane_of, lane_positions, AreHeardSince}

-- after a sample or a gap a lane reads on
abbrev pub reads_on : Got → Bool
reads_on (Item at x) = true
reads_on (Gap from to) = true
reads_on (Empty at) = false
reads_on (End total) = false

-- the most answers of a lane in one turn
abbrev pub most_reads : ℕ
most_reads = 9600

-- A lane reads on after each sample and each gap, up to the first other answer, and at most so often.
pub record IsReading (answers : List Got) : Type 0 where
  pub on : List Got
  pub rest : List Got
  pub are : answers ≡ on ++ rest
  pub each : All (λ got. reads_on got ≡ true) on
  pub over : ((rest ≡ []) × (length on ≡ most_reads))
      ⊎ ((last : Got) × (rest ≡ last ∷ []) × (reads_on last ≡ false) × (length on < most_reads))

-- one of the answers is that the ring has ended
abbrev pub MeetsEnd : List Got → Type 0
MeetsEnd answers = (total : ℕ) × Contains answers (End total)

-- the gaps of a lane's answers, in their order
abbrev pub gaps_of : ℕ → List Got → List LaneGap
gaps_of lane [] = []
gaps_of lane (Item at x ∷ answers) = gaps_of lane answers
gaps_of lane (Gap from to ∷ answers) = record { lane = lane; from = from; to = to } ∷ gaps_of lane answers
gaps_of lane (Empty at ∷ answers) = gaps_of lane answers
gaps_of lane (End total ∷ answers) = gaps_of lane answers

-- the gaps of lanes, the first of which has a number, lane by lane
abbrev pub gaps_from : ℕ → List (List Got) → List LaneGap
gaps_from lane [] = []
gaps_from lane (answers ∷ lanes) = gaps_of lane answers ++ gaps_from (lane + 1) lanes

-- each of the eight records has more reads
abbrev pub AreGrown : List Track → List Track → Type 0
AreGrown before now = (lane : ℕ) (d : Track) → lane < 8
    → (reads : List Entry) × ((slice_index_or now lane d).reads ≡ (slice_index_or before lane d).reads ++ reads)

-- each of the eight lanes was answered more
pub record AreLonger (before reads now : List (List Got)) : Type 0 where
  pub eight_before : length before ≡ 8
  pub eight_reads : length reads ≡ 8
  pub eight_now : length now ≡ 8
  pub each : (lane : ℕ) → lane < 8 → lane_of now lane ≡ lane_of before lane ++ lane_of reads lane

-- The lanes made one turn: each read as far as a lane reads in a turn, these are all gaps that they were told of, and
-- `ended` says that each of them met the end.
pub record IsTurn (before now : List (List Got)) (gaps : List LaneGap) (ended : Bool) : Type 0 where
  pub reads : List (List Got)
  pub longer : AreLonger before reads now
  pub readings : All IsReading reads
  pub told : gaps ≡ gaps_from 0 reads
  pub over : (ended ≡ true) ↔ All MeetsEnd reads

-- answers that follow one another from a position to a position: each sample and each gap begins where the one before
-- it ended, and a gap goes forward
abbrev pub Leads : ℕ → List Got → ℕ → Type 0
Leads from [] to = from ≡ to
Leads from (got ∷ answers) to = GoesForward from got × Leads (next got) answers to

-- the lanes went on from some answers to more, which lead to these positions, and the items are what they hear in these
pub record BringsOnRing (before now : List (List Got)) (positions : List ℕ) (items : List Candidate) : Type 0 where
  pub reads : List (List Got)
  pub longer : AreLonger before reads now
  pub lead : (lane : ℕ) → lane < 8 → (to : ℕ) × Leads 0 (lane_of now lane) to
  pub stand : positions ≡ lane_positions now
  pub heard : AreHeardSince before now items

-- no lane went back
abbrev pub AreForward : List ℕ → List ℕ → Type 0
AreForward before now = (lane : ℕ) → lane < 8 → slice_index before lane ≤ slice_index now lane

-- each item ends past the position of its lane
abbrev pub ArePast : List ℕ → List Candidate → Type 0
ArePast positions items = All (λ item. slice_index positions item.offset < item.end) items
