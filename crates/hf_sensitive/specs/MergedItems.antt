-- What a sensitive receiver of short wave gives of samples: the candidates of all lanes, merged, at once or piece by piece.
use Rattle.std.specs.Prelude.{ℕ, ◌-◌, ◌/◌, ℤ, List}
use Rattle.frame_merge.specs.declared.candidate.Candidate.{Candidate}
use Rattle.block_receiver.specs.MergedItems.{AreMerged as AreMergedOf, AreMergedBetween as AreMergedOfBetween}
use Rattle.hf_sensitive.specs.Candidates.{AreHeard}

-- The added lanes hear a frame up to seventeen fours of samples after its end: what ends below this one is settled.
abbrev pub settled : ℕ → ℕ
settled count = count / 4 - 17

-- the items are the merged candidates of the samples
abbrev pub AreMerged : List ℤ → List Candidate → Type 0
AreMerged x items = AreMergedOf AreHeard x items

-- the items are those of the samples' merged candidates that end from one number to below another
abbrev pub AreMergedBetween : ℕ → ℕ → List ℤ → List Candidate → Type 0
AreMergedBetween from to x items = AreMergedOfBetween AreHeard from to x items
