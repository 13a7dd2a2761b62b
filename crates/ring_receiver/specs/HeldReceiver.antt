-- What a receiver keeps that reads a ring, what contracts see of its readers, and what it stands for.
use Rattle.std.specs.Prelude.{◌≡◌, ℕ, ◌+◌, ◌-◌, Bool, true, false, Option, Some, None, List, [], ◌∷◌, ◌++◌, map, take}
use Rattle.std.specs.Prelude.{replicate}
use Rattle.sample_ring.specs.declared.got.Got.{Got}
use Rattle.sample_ring.specs.declared.reader.Reader.{Reader}
use Rattle.sample_ring.specs.declared.view.Track.{Track}
use Rattle.sample_ring.specs.Ends.{position_of, record_of}
use Rattle.frame_merge.specs.declared.candidate.Candidate.{Candidate}
use Rattle.frame_merge.specs.Held.{Held as HeldMerger, StandsFor as MergerStandsFor}
use Rattle.frame_merge.specs.Merged.{merged, below}
use Rattle.frame_merge.specs.Order.{in_order}
use Rattle.slicer_bank.specs.declared.detection.Detection.{Detection}
use Rattle.slicer_bank.specs.RingLanes.{HeldRingBank, answers_of, Listens, readers_in as readers_of_bank}
use Rattle.slicer_bank.specs.RingLanes.{positions_in as positions_of_bank}
use Rattle.slicer_bank.specs.HeardOnRing.{lane_of, lane_positions}
use Rattle.slicer_bank.specs.RingMerging.{HasMerged}
use Rattle.slicer_bank.specs.RingTurns.{Leads}
use Rattle.slicer_bank.specs.Stretches.{Stretch, position_after}
use Rattle.sensitive_receiver.specs.HeldLanes.{StandsFor as AddedStandsFor}
use Rattle.stretch_reader.specs.EachHeard.{AreAllIn}
use Rattle.stretch_reader.specs.Turns.{HaveHeard}
use Rattle.ring_receiver.specs.declared.added_lanes.AddedLanes.{AddedLanes}
use Rattle.ring_receiver.specs.declared.added_ring.AddedRing.{AddedRing}
use Rattle.ring_receiver.specs.AddedOnRing.{IsAddedInOne}
use Rattle.ring_receiver.specs.HeardByAll.{AreHeardBy, settled_position}

-- the eight lanes, the added ones if they listen, and the merger of what all of them hear; and whether memory was
-- wanted or the ring has ended
pub record HeldReceiver : Type 0 where
  pub sensitive : Bool
  pub detection : Detection
  pub bank : HeldRingBank
  pub added : Option AddedRing
  pub merger : HeldMerger
  pub spent : Bool

-- the readers of eight lanes in their order, and then that of the added ones if they listen
abbrev pub readers_with : List Reader → Option AddedRing → List Reader
readers_with eight None = eight
readers_with eight (Some added) = eight ++ added.reader ∷ []

-- the readers of a receiver
abbrev pub readers_in : HeldReceiver → List Reader
readers_in receiver = readers_with (readers_of_bank receiver.bank) receiver.added

-- their records
abbrev pub records_in : HeldReceiver → List Track
records_in receiver = map record_of (readers_in receiver)

-- all that each of them was answered
abbrev pub answers_in : ℕ → HeldReceiver → List (List Got)
answers_in len receiver = map (answers_of len) (readers_in receiver)

-- the added lanes have heard a stretch
pub record StandsForStretch (lanes : AddedLanes) (stretch : Stretch) : Type 0 where
  pub begin : lanes.begin ≡ stretch.begin
  pub samples : AddedStandsFor lanes.bank stretch.samples

-- and gave these items of it, which are all that they hear in it
pub record HoldStretch (lanes : AddedLanes) (stretch : Stretch) (items : List Candidate) : Type 0 where
  pub stands : StandsForStretch lanes stretch
  pub are : AreAllIn IsAddedInOne stretch items

-- the position of their next sample
abbrev pub place_of : AddedLanes → ℕ
place_of lanes = lanes.begin + lanes.bank.position

-- the added lanes have heard all that their reader was answered, which leads to its position
pub record AddedListens (len : ℕ) (added : AddedRing) : Type 0 where
  pub lead : Leads 0 (answers_of len added.reader) (position_of added.reader)
  pub given : List Candidate
  pub heard : HaveHeard (AreAllIn IsAddedInOne) (HoldStretch added.lanes) (answers_of len added.reader) given

-- so they have, if they listen
abbrev pub AddedListenIf : ℕ → Option AddedRing → Type 0
AddedListenIf len None = Unit {0}
AddedListenIf len (Some added) = AddedListens len added

-- the marks of the lanes: each at its position, and the added ones at theirs less 32
abbrev pub marks_of : HeldRingBank → Option AddedRing → List ℕ
marks_of bank None = positions_of_bank bank
marks_of bank (Some added) = positions_of_bank bank ++ replicate 18 (position_of added.reader - 32)

-- how far the added lanes have heard, and how far their reader has read
abbrev pub heard_to : Option AddedRing → ℕ
heard_to None = 0
heard_to (Some added) = place_of added.lanes

abbrev pub read_to : Option AddedRing → ℕ
read_to None = 0
read_to (Some added) = position_of added.reader

-- The merger of all lanes took all that these heard, in whatever order, each lane is marked at its position, the added
-- ones at theirs less 32, and what ends below the settled position is given.
pub record HasMergedAll (merger : HeldMerger) (lanes : List (List Got)) : Type 0 where
  pub marks : merger.marks ≡ lane_positions (take 8 lanes) ++ replicate 18 (position_after (lane_of lanes 8) - 32)
  pub puts : List Candidate
  pub candidates : List Candidate
  pub are : AreHeardBy true lanes candidates
  pub order : in_order puts ≡ candidates
  pub so_far : MergerStandsFor merger puts (below (settled_position true lanes) (merged candidates))

-- so has the merger of the lanes that listen
abbrev pub HasMergedBy : Bool → HeldMerger → List (List Got) → Type 0
HasMergedBy false merger lanes = HasMerged merger lanes
HasMergedBy true merger lanes = HasMergedAll merger lanes

-- The eight lanes of a receiver have heard all that their readers were answered. This is so after the end of the ring,
-- too.
abbrev pub EightListen : ℕ → HeldReceiver → Type 0
EightListen len receiver = Listens len receiver.bank

-- All lanes have heard all that their readers were answered, and the merger has given what is settled. The ring has not
-- ended, and all memory that was wanted was given.
pub record Hears (len : ℕ) (receiver : HeldReceiver) : Type 0 where
  pub spent : receiver.spent ≡ false
  pub eight : EightListen len receiver
  pub added : AddedListenIf len receiver.added
  pub merged : HasMergedBy receiver.sensitive receiver.merger (answers_in len receiver)
