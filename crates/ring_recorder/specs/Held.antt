-- What a recorder keeps, and the record that it stands for.
use Rattle.std.specs.Prelude.{◌≡◌, ℕ, ℤ, ◌==◌, if◌then◌else◌, Bool, true, List, [], ◌∷◌, ◌++◌}
use Rattle.std.specs.List.{All}
use Rattle.circular_buffer.specs.Buffer.{keep_last}
use Rattle.sample_ring.specs.declared.got.Got.{Got}
use Rattle.sample_ring.specs.declared.got.Got.TheVariants.{Item, Gap, Empty, End}
use Rattle.sample_ring.specs.declared.reader.Reader.{Reader}
use Rattle.sample_ring.specs.declared.view.Entry.{Entry}
use Rattle.sample_ring.specs.Ends.{reader_ring, position_of, reads_of, AddsRead, GoesForward}
use Rattle.sample_ring.specs.Record.{answer, next, Tiles}
use Rattle.ring_recorder.specs.declared.loss.Loss.{Loss}
use Rattle.ring_recorder.specs.Recording.{answers_of, sound, loss, losses, has_ended, items}
use Rattle.ring_recorder.specs.Tiling.{Tile}

pub record HeldRecorder : Type 0 where
  -- its reader, which carries its record
  pub reader : Reader
  -- the most samples of the sound
  pub keep : ℕ
  pub sound : List ℤ
  pub losses : List Loss
  -- its reader has met the end of the ring
  pub ended : Bool

-- Sound and losses are those of all that the reader of a ring of `len` cells was answered. Samples and losses tile the
-- positions that the reader has passed.
pub record StandsFor (len : ℕ) (recorder : HeldRecorder) : Type 0 where
  pub sound_is : recorder.sound ≡ sound recorder.keep (answers_of len recorder.reader)
  pub losses_are : recorder.losses ≡ losses (answers_of len recorder.reader)
  pub ended_is : recorder.ended ≡ has_ended (answers_of len recorder.reader)
  pub tile : Tile (position_of recorder.reader) (items (answers_of len recorder.reader)) recorder.losses
  -- each read begins where the one before it ended, and goes forward
  pub reads_tile : Tiles len 0 (reads_of recorder.reader) (position_of recorder.reader)
  pub forward : All (λ read. GoesForward read.at (answer len read)) (reads_of recorder.reader)

-- the losses after one more gap, which is one with the last loss if it begins where that ends
abbrev pub with_gap : List Loss → ℕ → ℕ → List Loss
with_gap [] from to = loss from to ∷ []
with_gap (last ∷ []) from to = if last.to == from then loss last.from to ∷ [] else last ∷ loss from to ∷ []
with_gap (first ∷ next ∷ others) from to = first ∷ with_gap (next ∷ others) from to

-- ---- one read

-- what one more answer makes of the sound, the losses and the end
abbrev pub sound_after : ℕ → List ℤ → Got → List ℤ
sound_after keep sound (Item at sample) = keep_last keep (sound ++ sample ∷ [])
sound_after keep sound (Gap from to) = sound
sound_after keep sound (Empty at) = sound
sound_after keep sound (End total) = sound

abbrev pub losses_after : List Loss → Got → List Loss
losses_after losses (Item at sample) = losses
losses_after losses (Gap from to) = with_gap losses from to
losses_after losses (Empty at) = losses
losses_after losses (End total) = losses

abbrev pub ended_after : Bool → Got → Bool
ended_after ended (Item at sample) = ended
ended_after ended (Gap from to) = ended
ended_after ended (Empty at) = ended
ended_after ended (End total) = true

-- the reader was answered once more, and the answer is kept
pub record TookAnswer (len : ℕ) (before after : HeldRecorder) (got : Got) : Type 0 where
  pub same_ring : reader_ring after.reader ≡ reader_ring before.reader
  pub keep : after.keep ≡ before.keep
  pub read : AddsRead len before.reader got after.reader
  pub moves : position_of after.reader ≡ next got
  pub forward : GoesForward (position_of before.reader) got
  pub sound : after.sound ≡ sound_after before.keep before.sound got
  pub losses : after.losses ≡ losses_after before.losses got
  pub ended : after.ended ≡ ended_after before.ended got
