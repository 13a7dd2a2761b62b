-- What all lanes bring of a turn, for a merger of all of them.
use Rattle.std.specs.Prelude.{◌≡◌, ℕ, List, take}
use Rattle.sample_ring.specs.declared.got.Got.{Got}
use Rattle.frame_merge.specs.declared.candidate.Candidate.{Candidate}
use Rattle.slicer_bank.specs.HeardOnRing.{lane_of}
use Rattle.slicer_bank.specs.RingTurns.{BringsOnRing}
use Rattle.slicer_bank.specs.Stretches.{position_after}
use Rattle.ring_receiver.specs.AddedTurns.{AreAddedSince}

-- The nine readers were answered more, which leads those of the eight lanes to these positions and that of the added
-- ones to this position; and these are what the eight and the added lanes hear in it.
pub record BringsByAll (before now : List (List Got)) (positions : List ℕ) (position : ℕ) (eight added : List Candidate)
    : Type 0 where
  pub first : BringsOnRing (take 8 before) (take 8 now) positions eight
  pub others : AreAddedSince (lane_of before 8) (lane_of now 8) added
  pub stand : position ≡ position_after (lane_of now 8)
