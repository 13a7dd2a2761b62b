-- What lanes hear that hear each item by itself: `In` says that an item is heard in a stretch. Then all that is heard of a
-- stretch is known at each moment, and no item stands as another does.
use Rattle.std.specs.Prelude.{◌≢◌, ◌⊎◌, List}
use Rattle.std.specs.List.{All, AllPairs, Contains}
use Rattle.sample_ring.specs.declared.got.Got.{Got}
use Rattle.frame_merge.specs.declared.candidate.Candidate.{Candidate}
use Rattle.frame_merge.specs.Order.{standing}
use Rattle.slicer_bank.specs.Stretches.{Stretch, stretches}

-- no two items stand alike
abbrev pub AreApart : List Candidate → Type 0
AreApart items = AllPairs (λ item later. standing item ≢ standing later) items

-- the items are all that is heard in a stretch, each once, in any order
pub record AreAllIn (In : Stretch → Candidate → Type 0) (stretch : Stretch) (items : List Candidate) : Type 0 where
  pub each : All (In stretch) items
  pub whole : (item : Candidate) → In stretch item → Contains items item
  pub apart : AreApart items

-- the item is heard in one of the stretches of these answers
pub record IsIn (In : Stretch → Candidate → Type 0) (answers : List Got) (item : Candidate) : Type 0 where
  pub stretch : Stretch
  pub is : Contains (stretches answers) stretch
  pub heard : In stretch item

-- The items are all that is heard in more answers and was not heard in the first of these, each once, in any order.
pub record AreMore (In : Stretch → Candidate → Type 0) (before now : List Got) (items : List Candidate) : Type 0 where
  pub each : All (IsIn In now) items
  pub still : (item : Candidate) → IsIn In before item → IsIn In now item
  pub whole : (item : Candidate) → IsIn In now item → IsIn In before item ⊎ Contains items item
  pub apart : AreApart items
  pub other : All (λ item. (old : Candidate) → IsIn In before old → standing old ≢ standing item) items
