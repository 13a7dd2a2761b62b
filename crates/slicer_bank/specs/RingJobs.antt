-- What one read, and one turn of reads, make of a lane.
use Rattle.std.specs.Prelude.{◌≡◌, ℕ, ◌<◌, ◌≤◌, ◌↔◌, Bool, true, false, List, [], ◌∷◌, ◌++◌, length, map}
use Rattle.std.specs.Prelude.{slice_index_or, is_some}
use Rattle.std.specs.List.{All, AllPairs, Contains, flat_map, list_all}
use Rattle.std.specs.List.Sorted.{IsPermutation, IsNonDecreasingBy}
use Rattle.atomic_table.specs.Seated.{TableId}
use Rattle.hdlc_framer.specs.Held.{flags_asked}
use Rattle.sample_ring.specs.declared.got.Got.{Got}
use Rattle.sample_ring.specs.declared.got.Got.TheVariants.{Item, Gap, Empty, End}
use Rattle.sample_ring.specs.declared.view.Entry.{Entry}
use Rattle.sample_ring.specs.Ends.{GoesForward, position_of, reads_of, reader_ring}
use Rattle.sample_ring.specs.Record.{answer, next}
use Rattle.frame_merge.specs.declared.candidate.Candidate.{Candidate}
use Rattle.slicer_bank.specs.declared.advance.LaneGap.{LaneGap}
use Rattle.slicer_bank.specs.declared.detection.Detection.{Detection}
use Rattle.slicer_bank.specs.declared.ring_lane.RingLane.{RingLane}
use Rattle.slicer_bank.specs.Heard.{candidate_at}
use Rattle.slicer_bank.specs.HeardOnRing.{IsHeardIn}
use Rattle.slicer_bank.specs.RingLanes.{answers_of, LaneListens}
use Rattle.slicer_bank.specs.RingTurns.{IsReading, MeetsEnd, gaps_of, Leads}
use Rattle.slicer_bank.specs.Stretches.{Stretch, stretch_after, with_sample}
use Rattle.slicer_bank.specs.StretchLanes.{StretchStandsFor, EndsLast}

-- a frame ends with an answer: only with a sample
abbrev pub EndsWithGot : ℕ → Stretch → Got → List ℕ → Type 0
EndsWithGot offset stretch (Item at x) octets = EndsLast offset (with_sample stretch x) octets
EndsWithGot offset stretch (Gap from to) octets = ⊥
EndsWithGot offset stretch (Empty at) octets = ⊥
EndsWithGot offset stretch (End total) octets = ⊥

abbrev pub is_sample : Got → Bool
is_sample (Item at x) = true
is_sample (Gap from to) = false
is_sample (Empty at) = false
is_sample (End total) = false

abbrev pub is_end : Got → Bool
is_end (Item at x) = false
is_end (Gap from to) = false
is_end (Empty at) = false
is_end (End total) = true

-- what stays of a lane: its ring, its offset, the flags that it listens for, and whether it listens for tones
pub record StaysLane (before after : RingLane) : Type 0 where
  pub ring : reader_ring after.reader ≡ reader_ring before.reader
  pub offset : after.lane.offset ≡ before.lane.offset
  pub flags : flags_asked after.lane.deframer ≡ flags_asked before.lane.deframer
  pub tones : is_some after.lane.tones ≡ is_some before.lane.tones

-- a lane has read once, with this answer
pub record TookAnswer (len : ℕ) (before after : RingLane) (got : Got) : Type 0 where
  pub entry : Entry
  pub is : got ≡ answer len entry
  pub read : reads_of after.reader ≡ reads_of before.reader ++ entry ∷ []
  pub forward : GoesForward (position_of before.reader) got
  pub position : position_of after.reader ≡ next got
  pub gaps : after.gaps.items ≡ before.gaps.items ++ gaps_of before.lane.offset (got ∷ [])
  pub ended : after.ended ≡ is_end got
  pub stands : (s : Stretch) → StretchStandsFor before.lane s → StretchStandsFor after.lane (stretch_after s got)
  pub octets : List (List ℕ)
  pub one : length octets ≤ 1
  pub only : is_sample got ≡ false → octets ≡ []
  pub found : after.found.items ≡ before.found.items ++ map (candidate_at (next got) before.lane.offset) octets
  pub each : (s : Stretch) → StretchStandsFor before.lane s → All (EndsWithGot before.lane.offset s got) octets
  pub whole : (s : Stretch) (o : List ℕ) → StretchStandsFor before.lane s → EndsWithGot before.lane.offset s got o
      → octets ≡ o ∷ []

-- what a lane found lies past a position, with rising ends
pub record ArePlaced (offset from to : ℕ) (items : List Candidate) : Type 0 where
  pub each : All (λ item. (item.offset ≡ offset) × (from < item.end) × (item.end ≤ to)) items
  pub rising : AllPairs (λ item later. item.end < later.end) items

-- the items are what is heard in these answers past a position
pub record AreHeardPast (offset from : ℕ) (answers : List Got) (items : List Candidate) : Type 0 where
  pub each : All (IsHeardIn answers) items
  pub whole : (item : Candidate) → item.offset ≡ offset → IsHeardIn answers item → from < item.end → Contains items item

-- a lane has gone on by these answers
pub record WentOn (len : ℕ) (before after : RingLane) (answers : List Got) : Type 0 where
  pub entries : List Entry
  pub are : answers ≡ map (answer len) entries
  pub read : reads_of after.reader ≡ reads_of before.reader ++ entries
  pub forward : Leads (position_of before.reader) answers (position_of after.reader)
  pub gaps : after.gaps.items ≡ gaps_of before.lane.offset answers
  pub places : ArePlaced before.lane.offset (position_of before.reader) (position_of after.reader) after.found.items
  pub heard : (detection : Detection) → LaneListens len detection before.lane.offset before
      → LaneListens len detection before.lane.offset after
      × AreHeardPast before.lane.offset (position_of before.reader) (answers_of len after.reader) after.found.items

-- a lane has made its turn of reading
pub record MadeTurn (len : ℕ) (before after : RingLane) : Type 0 where
  pub answers : List Got
  pub on : WentOn len before after answers
  pub reading : IsReading answers
  pub met : (after.ended ≡ true) ↔ MeetsEnd answers

-- nothing is left in a lane of what it found
pub record IsTaken (lane : RingLane) : Type 0 where
  pub found : lane.found.items ≡ []
  pub gaps : lane.gaps.items ≡ []

-- a lane that is ready for a turn: it is one of the ring and has its offset, and nothing is left in it
pub record IsReady (ring : TableId) (offset : ℕ) (lane : RingLane) : Type 0 where
  pub same_ring : reader_ring lane.reader ≡ ring
  pub place : lane.lane.offset ≡ offset
  pub taken : IsTaken lane

-- what a turn makes of a lane: its reads are added to its record, and unless it wanted memory it made its turn
pub record Advanced (len : ℕ) (before after : RingLane) : Type 0 where
  pub stays : StaysLane before after
  pub entries : List Entry
  pub grown : reads_of after.reader ≡ reads_of before.reader ++ entries
  pub made : after.spent ≡ false → MadeTurn len before after

-- a lane that is as it was, but for what it found
pub record IsAlike (before after : RingLane) : Type 0 where
  pub reader : after.reader ≡ before.reader
  pub lane : after.lane ≡ before.lane
  pub ended : after.ended ≡ before.ended
  pub spent : after.spent ≡ before.spent

-- what eight lanes found, by the ends, and how far they came
pub record IsGathered (lanes : List RingLane) (positions : List ℕ) (candidates : List Candidate) (gaps : List LaneGap)
    (ended : Bool) : Type 0 where
  pub spent : All (λ lane. lane.spent ≡ false) lanes
  pub stand : positions ≡ map (λ lane. position_of lane.reader) lanes
  pub found : IsPermutation (flat_map (λ lane. lane.found.items) lanes) candidates
  pub rising : IsNonDecreasingBy (λ item. item.end) candidates
  pub told : gaps ≡ flat_map (λ lane. lane.gaps.items) lanes
  pub over : ended ≡ list_all (λ lane. lane.ended) lanes

-- eight lanes of a ring, each at its own offset, and ready for a turn
abbrev pub LanesStay : TableId → List RingLane → Type 0
LanesStay ring lanes = (k : ℕ) (d : RingLane) → k < 8 → (reader_ring (slice_index_or lanes k d).reader ≡ ring)
    × ((slice_index_or lanes k d).lane.offset ≡ k)

abbrev pub LanesAreReady : TableId → List RingLane → Type 0
LanesAreReady ring lanes = (k : ℕ) (d : RingLane) → k < 8 → IsReady ring k (slice_index_or lanes k d)

-- each of eight lanes has its own offset
abbrev pub AreInPlace : List RingLane → Type 0
AreInPlace lanes = (k : ℕ) (d : RingLane) → k < 8 → (slice_index_or lanes k d).lane.offset ≡ k
