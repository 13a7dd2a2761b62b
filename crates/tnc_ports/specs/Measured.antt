-- How the reader of the sound reads on, tick by tick.
use Rattle.std.specs.Prelude.{◌≡◌, ℕ, ◌+◌, ◌<◌, ◌≤◌, List, [], ◌∷◌, fold}
use Rattle.sample_ring.specs.declared.got.Got.{Got}
use Rattle.sample_ring.specs.declared.got.Got.TheVariants.{Item, Gap, Empty, End}
use Rattle.sample_ring.specs.Record.{next}

-- the position after some answers, from a position on
abbrev pub place_after : ℕ → List Got → ℕ
place_after at answers = fold (λ place got. next got) at answers

-- From a position the reader reads on until it is at another one or past it, or is answered neither a sample nor a gap.
abbrev pub ReadsTo : ℕ → ℕ → List Got → Type 0
ReadsTo to at [] = to ≤ at
ReadsTo to at (Item from x ∷ reads) = (at < to) × ReadsTo to (from + 1) reads
ReadsTo to at (Gap from end ∷ reads) = (at < to) × ReadsTo to end reads
ReadsTo to at (Empty from ∷ reads) = (at < to) × (reads ≡ [])
ReadsTo to at (End total ∷ reads) = (at < to) × (reads ≡ [])
