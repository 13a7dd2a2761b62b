-- What a reader is answered in one turn of a recorder.
use Rattle.std.specs.Prelude.{◌≡◌, ℕ, ◌<◌, ◌⊎◌, Bool, true, false, List, [], ◌∷◌, ◌++◌, length}
use Rattle.std.specs.List.{All}
use Rattle.sample_ring.specs.declared.got.Got.{Got}
use Rattle.sample_ring.specs.declared.got.Got.TheVariants.{Item, Gap, Empty, End}

-- after a sample or a gap a recorder reads on
abbrev pub reads_on : Got → Bool
reads_on (Item at sample) = true
reads_on (Gap from to) = true
reads_on (Empty at) = false
reads_on (End total) = false

-- the most answers of one turn: those of a second
abbrev pub most_reads : ℕ
most_reads = 9600

-- as many answers as a turn has at most, after each of which it reads on
abbrev pub IsFullTurn : List Got → Type 0
IsFullTurn answers = All (λ got. reads_on got ≡ true) answers × (length answers ≡ most_reads)

-- or fewer before the first answer after which it does not
abbrev pub IsStoppedTurn : List Got → Type 0
IsStoppedTurn answers = (on : List Got) × (last : Got) × (answers ≡ on ++ last ∷ [])
    × All (λ got. reads_on got ≡ true) on × (reads_on last ≡ false) × (length on < most_reads)

abbrev pub IsTurn : List Got → Type 0
IsTurn answers = IsFullTurn answers ⊎ IsStoppedTurn answers
