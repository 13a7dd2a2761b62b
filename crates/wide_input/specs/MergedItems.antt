-- What is given of samples at 48,000 a second: the candidates of all streams, merged, at once or piece by piece.
use Rattle.std.specs.Prelude.{◌≡◌, ℕ, ◌-◌, ◌/◌, ℤ, List}
use Rattle.frame_merge.specs.declared.candidate.Candidate.{Candidate}
use Rattle.frame_merge.specs.Merged.{merged, between, not_below}
use Rattle.wide_input.specs.Candidates.{AreWideCandidates}

-- the items are the merged candidates of the samples
pub record AreWideMerged (x : List ℤ) (items : List Candidate) : Type 0 where
  pub candidates : List Candidate
  pub are : AreWideCandidates x candidates
  pub is : items ≡ merged candidates

-- the items are those of the samples' merged candidates that end from one position to below another
pub record AreWideMergedBetween (from to : ℕ) (x : List ℤ) (items : List Candidate) : Type 0 where
  pub candidates : List Candidate
  pub are : AreWideCandidates x candidates
  pub is : items ≡ between from to (merged candidates)

-- the items are those of the samples' merged candidates that do not end below a position
pub record AreWideRest (from : ℕ) (x : List ℤ) (items : List Candidate) : Type 0 where
  pub candidates : List Candidate
  pub are : AreWideCandidates x candidates
  pub is : items ≡ not_below from (merged candidates)

-- so many samples settle, with the filter before the streams, what ends below this position of the least stream
abbrev pub settled_ends : ℕ → ℕ
settled_ends count = (count - 15) / 5
