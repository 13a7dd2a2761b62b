-- What the added lanes hear of a block of samples.
use Rattle.std.specs.Prelude.{◌≡◌, ◌+◌, ◌-◌, ℤ, List, ◌++◌, length}
use Rattle.std.specs.List.{All}
use Rattle.frame_merge.specs.declared.candidate.Candidate.{Candidate}
use Rattle.sensitive_receiver.specs.Found.{AreAddedBetween, HasRoom, IsAddedFrom}
use Rattle.sensitive_receiver.specs.HeldLanes.{HeldBank, StandsFor}
use Rattle.sensitive_receiver.specs.Lanes.{added_places}

-- The bank takes a block, and these items are what its lanes hear at the places that the block decides.
pub record HearsBlock (old new : HeldBank) (block : List ℤ) (items : List Candidate) : Type 0 where
  pub found : (x : List ℤ) → StandsFor old x
      → StandsFor new (x ++ block)
      × AreAddedBetween (added_places (length x)) (added_places (length (x ++ block))) (x ++ block) items
  pub bounds : All HasRoom items
  pub late : All (IsAddedFrom (old.position - 32)) items
  pub position : new.position ≡ old.position + length block
