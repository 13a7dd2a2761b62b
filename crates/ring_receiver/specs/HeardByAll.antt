-- What all lanes of a receiver hear that reads a ring, and what is due of it. `sensitive` says that the added lanes
-- listen. Then there are nine lists of answers: those of the readers of the eight lanes, and those of the reader that
-- the added lanes share.
use Rattle.std.specs.Prelude.{◌≡◌, ℕ, ◌-◌, ◌<◌, ◌⊎◌, Bool, true, false, List, take, min}
use Rattle.std.specs.List.{All, AllPairs, Contains}
use Rattle.sample_ring.specs.declared.got.Got.{Got}
use Rattle.frame_merge.specs.declared.candidate.Candidate.{Candidate}
use Rattle.frame_merge.specs.Merged.{merged, between, not_below}
use Rattle.frame_merge.specs.Order.{standing}
use Rattle.slicer_bank.specs.HeardOnRing.{IsHeardOnRing, lane_of, least_position}
use Rattle.slicer_bank.specs.Stretches.{position_after}
use Rattle.ring_receiver.specs.AddedOnRing.{IsAddedIn}

-- the item is heard by one of the eight lanes or, if these listen, by an added one
abbrev pub IsHeardBy : Bool → List (List Got) → Candidate → Type 0
IsHeardBy false lanes item = IsHeardOnRing lanes item
IsHeardBy true lanes item = IsHeardOnRing lanes item ⊎ IsAddedIn (lane_of lanes 8) item

-- the items are all that the lanes hear, each once, by end and then lane
pub record AreHeardBy (sensitive : Bool) (lanes : List (List Got)) (items : List Candidate) : Type 0 where
  pub each : All (IsHeardBy sensitive lanes) items
  pub whole : (item : Candidate) → IsHeardBy sensitive lanes item → Contains items item
  pub order : AllPairs (λ item later. standing item < standing later) items

-- The position below which no lane hears anything more: the least of the positions of the eight lanes, and that of the
-- added lanes less 32, since they hear a frame up to 32 samples after its end.
abbrev pub settled_position : Bool → List (List Got) → ℕ
settled_position false lanes = least_position lanes
settled_position true lanes = min (least_position (take 8 lanes)) (position_after (lane_of lanes 8) - 32)

-- the items are those of what the lanes hear, merged, that end from one position to below another
pub record AreMergedBy (sensitive : Bool) (from to : ℕ) (lanes : List (List Got)) (items : List Candidate)
    : Type 0 where
  pub candidates : List Candidate
  pub are : AreHeardBy sensitive lanes candidates
  pub is : items ≡ between from to (merged candidates)

-- the items are all those of what the lanes hear, merged, that do not end below a position
pub record AreRestBy (sensitive : Bool) (from : ℕ) (lanes : List (List Got)) (items : List Candidate) : Type 0 where
  pub candidates : List Candidate
  pub are : AreHeardBy sensitive lanes candidates
  pub is : items ≡ not_below from (merged candidates)

-- An item is due once no lane can hear anything more that ends before it, and every item that is left once the ring
-- has ended.
abbrev pub AreDueBy : Bool → Bool → List (List Got) → List (List Got) → List Candidate → Type 0
AreDueBy sensitive false before now items =
    AreMergedBy sensitive (settled_position sensitive before) (settled_position sensitive now) now items
AreDueBy sensitive true before now items = AreRestBy sensitive (settled_position sensitive before) now items
