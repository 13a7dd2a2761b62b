-- What the added lanes hear that share one reader of a ring. A gap starts them anew, so they hear each stretch of its
-- answers by itself; places are those of the whole input.
use Rattle.std.specs.Prelude.{◌≡◌, ℕ, ◌+◌, List}
use Rattle.std.specs.List.{Contains}
use Rattle.sample_ring.specs.declared.got.Got.{Got}
use Rattle.frame_merge.specs.declared.candidate.Candidate.{Candidate}
use Rattle.slicer_bank.specs.Stretches.{Stretch, stretches}
use Rattle.sensitive_receiver.specs.AddedCandidates.{IsAdded}

-- what is heard in a stretch, with its end counted from the begin of the input
abbrev pub moved : ℕ → Candidate → Candidate
moved begin heard = record heard { end = begin + heard.end }

-- the item is what an added lane hears in a stretch
pub record IsAddedInOne (stretch : Stretch) (item : Candidate) : Type 0 where
  pub heard : Candidate
  pub added : IsAdded stretch.samples heard
  pub item_is : item ≡ moved stretch.begin heard

-- the item is what an added lane hears in the samples of some stretch of these answers
pub record IsAddedIn (answers : List Got) (item : Candidate) : Type 0 where
  pub stretch : Stretch
  pub is : Contains (stretches answers) stretch
  pub heard : Candidate
  pub added : IsAdded stretch.samples heard
  pub item_is : item ≡ moved stretch.begin heard
