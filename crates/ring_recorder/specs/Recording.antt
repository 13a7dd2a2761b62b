-- What is kept of all that a reader of a ring was answered: its samples, of which the last are the sound, and what it
-- lost.
use Rattle.std.specs.Prelude.{ℕ, ℤ, ◌==◌, if◌then◌else◌, Bool, true, false, List, [], ◌∷◌, map}
use Rattle.circular_buffer.specs.Buffer.{keep_last}
use Rattle.sample_ring.specs.declared.got.Got.{Got}
use Rattle.sample_ring.specs.declared.got.Got.TheVariants.{Item, Gap, Empty, End}
use Rattle.sample_ring.specs.declared.reader.Reader.{Reader}
use Rattle.sample_ring.specs.Ends.{reads_of}
use Rattle.sample_ring.specs.Record.{answer}
use Rattle.ring_recorder.specs.declared.loss.Loss.{Loss}

-- all that a reader of a ring of `len` cells was answered
abbrev pub answers_of : ℕ → Reader → List Got
answers_of len reader = map (answer len) (reads_of reader)

-- ---- the sound

-- a sample and its position
pub record Placed : Type 0 where
  pub at : ℕ
  pub sample : ℤ

-- the samples that a reader was given, in their order
abbrev pub items : List Got → List Placed
items [] = []
items (Item at sample ∷ answers) = record { at = at; sample = sample } ∷ items answers
items (Gap from to ∷ answers) = items answers
items (Empty at ∷ answers) = items answers
items (End total ∷ answers) = items answers

-- the sound: the last `keep` of these samples, or all of them if there are fewer
abbrev pub sound : ℕ → List Got → List ℤ
sound keep answers = keep_last keep (map (λ item. item.sample) (items answers))

-- ---- the losses

abbrev pub loss : ℕ → ℕ → Loss
loss from to = record { from = from; to = to }

-- a gap and the losses after it: a loss that begins where the gap ends is one with it
abbrev pub gap_before : ℕ → ℕ → List Loss → List Loss
gap_before from to [] = loss from to ∷ []
gap_before from to (next ∷ others) =
    if next.from == to then loss from next.to ∷ others else loss from to ∷ next ∷ others

-- The losses: the gaps in their order. Gaps of which each begins where the one before it ends are one loss.
abbrev pub losses : List Got → List Loss
losses [] = []
losses (Item at sample ∷ answers) = losses answers
losses (Gap from to ∷ answers) = gap_before from to (losses answers)
losses (Empty at ∷ answers) = losses answers
losses (End total ∷ answers) = losses answers

-- ---- the end

-- one of the answers is that the ring has ended
abbrev pub has_ended : List Got → Bool
has_ended [] = false
has_ended (Item at sample ∷ answers) = has_ended answers
has_ended (Gap from to ∷ answers) = has_ended answers
has_ended (Empty at ∷ answers) = has_ended answers
has_ended (End total ∷ answers) = true
