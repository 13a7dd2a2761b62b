-- What one turn of reads makes of the added lanes that share a reader.
use Rattle.std.specs.Prelude.{◌≢◌, ℕ, ◌+◌, ◌<◌, ◌≤◌, ◌⊎◌, List}
use Rattle.std.specs.List.{All, AllPairs, Contains}
use Rattle.sample_ring.specs.declared.got.Got.{Got}
use Rattle.frame_merge.specs.declared.candidate.Candidate.{Candidate}
use Rattle.frame_merge.specs.Order.{standing}
use Rattle.slicer_bank.specs.Stretches.{position_after}
use Rattle.stretch_reader.specs.declared.turn.Turn.{Turn}
use Rattle.stretch_reader.specs.EachHeard.{AreAllIn}
use Rattle.stretch_reader.specs.Turns.{MadeTurn}
use Rattle.ring_receiver.specs.declared.added_ring.AddedRing.{AddedRing}
use Rattle.ring_receiver.specs.AddedOnRing.{IsAddedIn, IsAddedInOne}
use Rattle.ring_receiver.specs.HeldReceiver.{HoldStretch, StandsForStretch}

-- The items are all that the added lanes hear in some answers and did not hear in the first of these, each once, in any
-- order. They end at most 32 samples before the position after the first answers.
pub record AreAddedSince (before now : List Got) (items : List Candidate) : Type 0 where
  pub each : All (IsAddedIn now) items
  pub still : (item : Candidate) → IsAddedIn before item → IsAddedIn now item
  pub whole : (item : Candidate) → IsAddedIn now item → IsAddedIn before item ⊎ Contains items item
  pub late : All (λ item. position_after before ≤ item.end + 32) items
  pub lanes : All (λ item. (8 ≤ item.offset) × (item.offset < 26)) items
  pub apart : AllPairs (λ item later. standing item ≢ standing later) items
  pub other : All (λ item. (old : Candidate) → IsAddedIn before old → standing old ≢ standing item) items
  pub forward : position_after before ≤ position_after now

-- the added lanes have made their turn of reading
abbrev pub MadeAddedTurn : ℕ → AddedRing → AddedRing → Turn → Type 0
MadeAddedTurn len before after turn =
    MadeTurn (AreAllIn IsAddedInOne) (HoldStretch before.lanes) (HoldStretch after.lanes)
    (StandsForStretch before.lanes) (StandsForStretch after.lanes) len 8 before.reader after.reader turn
