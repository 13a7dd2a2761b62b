-- What a receiver makes of samples: the octets of the merged candidates.
use Rattle.std.specs.Prelude.{◌≡◌, ℕ, ℤ, List, map}
use Rattle.frame_merge.specs.declared.candidate.Candidate.{Candidate}
use Rattle.frame_merge.specs.Merged.{merged}
use Rattle.hf_modem.specs.Candidates.{AreCandidates}

-- the merged candidates of the samples have these octets, in this order
abbrev pub MergesTo : List (List ℕ) → List ℤ → Type 0
MergesTo frames x = (items : List Candidate) → AreCandidates x items → map (λ item. item.octets) (merged items) ≡ frames
