-- What a merger of eight lanes that read a ring has taken and given.
use Rattle.std.specs.Prelude.{◌≡◌, List}
use Rattle.sample_ring.specs.declared.got.Got.{Got}
use Rattle.frame_merge.specs.declared.candidate.Candidate.{Candidate}
use Rattle.frame_merge.specs.Held.{Held as HeldMerger, StandsFor as MergerStandsFor}
use Rattle.frame_merge.specs.Merged.{merged, below}
use Rattle.frame_merge.specs.Order.{in_order}
use Rattle.slicer_bank.specs.HeardOnRing.{AreHeardOnRing, lane_positions, least_position}

-- The merger took all that the lanes heard, in whatever order, each lane is marked at its position, and what ends below
-- the least position is given.
pub record HasMerged (merger : HeldMerger) (lanes : List (List Got)) : Type 0 where
  pub marks : merger.marks ≡ lane_positions lanes
  pub puts : List Candidate
  pub candidates : List Candidate
  pub are : AreHeardOnRing lanes candidates
  pub order : in_order puts ≡ candidates
  pub so_far : MergerStandsFor merger puts (below (least_position lanes) (merged candidates))
