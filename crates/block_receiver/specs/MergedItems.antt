-- What is given of samples: what is heard of them, merged, at once or piece by piece.
use Rattle.std.specs.Prelude.{◌≡◌, ℕ, ℤ, List}
use Rattle.frame_merge.specs.declared.candidate.Candidate.{Candidate}
use Rattle.frame_merge.specs.Merged.{merged, between}

-- the items are the merged candidates of the samples
pub record AreMerged (Heard : List ℤ → List Candidate → Type 0) (x : List ℤ) (items : List Candidate) : Type 0 where
  pub candidates : List Candidate
  pub are : Heard x candidates
  pub is : items ≡ merged candidates

-- the items are those of the samples' merged candidates that end from one position to below another
pub record AreMergedBetween (Heard : List ℤ → List Candidate → Type 0) (from to : ℕ) (x : List ℤ)
    (items : List Candidate) : Type 0 where
  pub candidates : List Candidate
  pub are : Heard x candidates
  pub is : items ≡ between from to (merged candidates)
