-- What a reader of a ring was answered, cut at each gap into stretches: samples that follow one another.
use Rattle.std.specs.Prelude.{ℕ, ◌+◌, ℤ, Bool, List, [], ◌∷◌, ◌++◌, length, fold}
use Rattle.sample_ring.specs.declared.got.Got.{Got}
use Rattle.sample_ring.specs.declared.got.Got.TheVariants.{Item, Gap, Empty, End}
use Rattle.offset_slicers.specs.Windows.{bits}
use Rattle.offset_slicers.specs.Held.{offset_from}

-- samples that follow one another, and the position of the first
pub record Stretch : Type 0 where
  pub begin : ℕ
  pub samples : List ℤ

-- a stretch that begins at a position and has no sample yet
abbrev pub stretch_at : ℕ → Stretch
stretch_at begin = record { begin = begin; samples = [] }

-- a stretch with one more sample
abbrev pub with_sample : Stretch → ℤ → Stretch
with_sample stretch x = record { begin = stretch.begin; samples = stretch.samples ++ x ∷ [] }

-- the stretches of some answers, the first of which is under way
abbrev pub stretches_from : Stretch → List Got → List Stretch
stretches_from stretch [] = stretch ∷ []
stretches_from stretch (Item at x ∷ answers) = stretches_from (with_sample stretch x) answers
stretches_from stretch (Gap from to ∷ answers) = stretch ∷ stretches_from (stretch_at to) answers
stretches_from stretch (Empty at ∷ answers) = stretches_from stretch answers
stretches_from stretch (End total ∷ answers) = stretches_from stretch answers

-- the stretches of all that a reader was answered: the first begins at 0, each other one where a gap ends
abbrev pub stretches : List Got → List Stretch
stretches answers = stretches_from (stretch_at 0) answers

-- the stretch under way after one more answer
abbrev pub stretch_after : Stretch → Got → Stretch
stretch_after stretch (Item at x) = with_sample stretch x
stretch_after stretch (Gap from to) = stretch_at to
stretch_after stretch (Empty at) = stretch
stretch_after stretch (End total) = stretch

-- the last of the stretches
abbrev pub last_stretch : List Got → Stretch
last_stretch answers = fold stretch_after (stretch_at 0) answers

-- one past the position of the last sample of a stretch
abbrev pub end_of : Stretch → ℕ
end_of stretch = stretch.begin + length stretch.samples

-- the position that answers lead to
abbrev pub position_after : List Got → ℕ
position_after answers = end_of (last_stretch answers)

-- the bits of a stretch: from the first window of the offset that begins in it, the tone before being mark
abbrev pub stretch_bits : ℕ → Stretch → List Bool
stretch_bits offset stretch = bits (offset_from offset stretch.begin) stretch.samples
