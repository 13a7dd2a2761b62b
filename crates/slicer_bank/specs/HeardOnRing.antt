-- What eight lanes hear that each have a reader of one ring. Lane k takes the windows of offset k. A list of lanes is
-- the list of the answers of each; places are those of the whole input.
use Rattle.std.specs.Prelude.{◌≡◌, ℕ, ◌+◌, ◌*◌, ◌<◌, List, [], length, map, take, slice_index_or}
use Rattle.std.specs.List.{All, AllPairs, Contains}
use Rattle.hdlc_framer.specs.Frames.{EndsFrame}
use Rattle.offset_slicers.specs.Held.{offset_from}
use Rattle.sample_ring.specs.declared.got.Got.{Got}
use Rattle.frame_merge.specs.declared.candidate.Candidate.{Candidate}
use Rattle.frame_merge.specs.Held.{least}
use Rattle.frame_merge.specs.Merged.{merged, between, not_below}
use Rattle.frame_merge.specs.Order.{standing}
use Rattle.slicer_bank.specs.declared.detection.Detection.{Detection}
use Rattle.slicer_bank.specs.Detection.{HearsStation}
use Rattle.slicer_bank.specs.Stretches.{Stretch, stretches, last_stretch, stretch_bits, position_after}

-- the answers of one of the lanes
abbrev pub lane_of : List (List Got) → ℕ → List Got
lane_of lanes lane = slice_index_or lanes lane []

-- a frame ends at bit `index` of a stretch's bits at the item's offset, and the item's end is the first place past that
-- bit's window
pub record EndsInStretch (stretch : Stretch) (item : Candidate) (index : ℕ) : Type 0 where
  pub within : index < length (stretch_bits item.offset stretch)
  pub end_of : item.end ≡ stretch.begin + offset_from item.offset stretch.begin + 8 * (index + 1)
  pub frame : EndsFrame (take (index + 1) (stretch_bits item.offset stretch)) item.octets

-- the item is heard in some stretch of these answers
pub record IsHeardIn (answers : List Got) (item : Candidate) : Type 0 where
  pub stretch : Stretch
  pub is : Contains (stretches answers) stretch
  pub index : ℕ
  pub ends : EndsInStretch stretch item index

-- the item is heard by the lane of its offset
pub record IsHeardOnRing (lanes : List (List Got)) (item : Candidate) : Type 0 where
  pub offset : item.offset < 8
  pub heard : IsHeardIn (lane_of lanes item.offset) item

-- the items are all that the lanes hear, each once, by end and then offset
pub record AreHeardOnRing (lanes : List (List Got)) (items : List Candidate) : Type 0 where
  pub each : All (IsHeardOnRing lanes) items
  pub whole : (item : Candidate) → IsHeardOnRing lanes item → Contains items item
  pub order : AllPairs (λ item later. standing item < standing later) items

-- the items are all that the lanes hear now and did not hear before, each once, by end and then offset
pub record AreHeardSince (before now : List (List Got)) (items : List Candidate) : Type 0 where
  pub each : All (λ item. IsHeardOnRing now item × (¬ IsHeardOnRing before item)) items
  pub whole : (item : Candidate) → IsHeardOnRing now item → (¬ IsHeardOnRing before item) → Contains items item
  pub order : AllPairs (λ item later. standing item < standing later) items

-- the position of each lane, and the least of them
abbrev pub lane_positions : List (List Got) → List ℕ
lane_positions lanes = map position_after lanes

abbrev pub least_position : List (List Got) → ℕ
least_position lanes = least (lane_positions lanes)

-- the items are those of what the lanes hear, merged, that end from one position to below another
pub record AreMergedOnRing (from to : ℕ) (lanes : List (List Got)) (items : List Candidate) : Type 0 where
  pub candidates : List Candidate
  pub are : AreHeardOnRing lanes candidates
  pub is : items ≡ between from to (merged candidates)

-- the items are all those of what the lanes hear, merged, that do not end below a position
pub record AreRestOnRing (from : ℕ) (lanes : List (List Got)) (items : List Candidate) : Type 0 where
  pub candidates : List Candidate
  pub are : AreHeardOnRing lanes candidates
  pub is : items ≡ not_below from (merged candidates)

-- some lane hears a station in its last stretch, by so many flags in a row or by tones
pub record IsBusyOnRing (detection : Detection) (lanes : List (List Got)) : Type 0 where
  pub lane : ℕ
  pub within : lane < 8
  pub hears : HearsStation detection lane (last_stretch (lane_of lanes lane))
