-- The candidates of a sensitive receiver of short wave: what one of the 32 lanes hears, or one of the 27 that are added.
use Rattle.std.specs.Prelude.{◌<◌, ◌⊎◌, ℤ, List}
use Rattle.std.specs.List.{All, AllPairs, Contains}
use Rattle.frame_merge.specs.declared.candidate.Candidate.{Candidate}
use Rattle.frame_merge.specs.Order.{standing}
use Rattle.hf_modem.specs.Candidates.{IsCandidate}
use Rattle.hf_sensitive.specs.AddedCandidates.{IsAdded}

-- some lane hears the item
abbrev pub IsHeard : List ℤ → Candidate → Type 0
IsHeard x item = IsCandidate x item ⊎ IsAdded x item

-- the items are all candidates of the samples, each once, by end and then lane
pub record AreHeard (x : List ℤ) (items : List Candidate) : Type 0 where
  pub each : All (IsHeard x) items
  pub whole : (item : Candidate) → IsHeard x item → Contains items item
  pub order : AllPairs (λ item later. standing item < standing later) items
