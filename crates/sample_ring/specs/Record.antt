-- A reader's record against the published list. A read's answer follows from the reader's position and the words
-- that it loaded; what the answer then says of the published list is stated answer by answer.
use Rattle.std.specs.Prelude.{◌≡◌, ℕ, ◌+◌, ◌-◌, ◌%◌, ◌<◌, ◌≤◌, Bool, true, List, [], ◌∷◌, ◌++◌, length, ℤ, Some}
use Rattle.std.specs.Prelude.{slice_get, ◌==◌, nat_lt, if◌then◌else◌}
use Rattle.std.specs.List.{All}
use Rattle.sample_ring.specs.declared.got.Got.{Got}
use Rattle.sample_ring.specs.declared.got.Got.TheVariants.{Item, Gap, Empty, End}
use Rattle.sample_ring.specs.declared.view.Entry.{Entry}
use Rattle.sample_ring.specs.declared.view.Track.{Track}
use Rattle.sample_ring.specs.Cells.{lap_of, sample_of}

-- The answer of a read, of a ring of `len` cells. A cell that tells the reader's position gives its sample. One that
-- tells a later position has been overwritten, and the oldest position that the ring still has is the next to read.
-- Else nothing is there yet, and the end word says whether anything will be.
abbrev pub answer : ℕ → Entry → Got
answer len e =
    if lap_of e.cell == e.at + 1
    then Item e.at (sample_of e.cell)
    else if nat_lt (e.at + 1) (lap_of e.cell) then Gap e.at (lap_of e.cell - len) else if e.last == e.at + 1
    then End e.at else Empty e.at

-- the position after an answer
abbrev pub next : Got → ℕ
next (Item at sample) = at + 1
next (Gap from to) = to
next (Empty at) = at
next (End total) = total

-- what an answer says of the published list, and of the count that the reader knew
abbrev pub StandsAs : ℕ → List ℤ → Bool → ℕ → Got → Type 0
StandsAs len published ended known (Item at sample) = slice_get published at ≡ Some sample
StandsAs len published ended known (Gap from to) = (from < to) × (to % len ≡ (from + 1) % len)
    × (to + len ≤ length published)
StandsAs len published ended known (Empty at) = (at ≤ length published) × (known ≤ at)
StandsAs len published ended known (End total) = (ended ≡ true) × (length published ≡ total)

-- the answer of a read holds of the published list
abbrev pub Stands : ℕ → List ℤ → Bool → Entry → Type 0
Stands len published ended e = StandsAs len published ended e.known (answer len e)

-- each read begins where the one before it ended, from the first position to the last
abbrev pub Tiles : ℕ → ℕ → List Entry → ℕ → Type 0
Tiles len from [] to = from ≡ to
Tiles len from (e ∷ reads) to = (e.at ≡ from) × Tiles len (next (answer len e)) reads to

-- a record stands in the published list: each answer holds, and the items and gaps tile the positions from 0 to the
-- reader's
pub record StandsIn (len : ℕ) (published : List ℤ) (ended : Bool) (track : Track) : Type 0 where
  pub within : track.at ≤ length published
  pub stands : All (Stands len published ended) track.reads
  pub tiles : Tiles len 0 track.reads track.at

-- the record after one more read
abbrev pub with_read : ℕ → Track → Entry → Track
with_read len track e = record { at = next (answer len e); reads = track.reads ++ e ∷ [] }
