-- What contracts see of a ring and its ends: to which ring each belongs, the published list, what a reader knows and
-- read.
use Rattle.std.specs.Prelude.{◌≡◌, ℕ, ◌-◌, ◌^◌, ◌<◌, List, [], ◌∷◌, ◌++◌, ℤ}
use Rattle.atomic_table.specs.Seated.{TableId}
use Rattle.sample_ring.specs.declared.got.Got.{Got}
use Rattle.sample_ring.specs.declared.got.Got.TheVariants.{Item, Gap, Empty, End}
use Rattle.sample_ring.specs.declared.view.Entry.{Entry}
use Rattle.sample_ring.specs.declared.view.Track.{Track}
use Rattle.sample_ring.specs.declared.ring.Ring.{Ring}
use Rattle.sample_ring.specs.declared.writer.Writer.{Writer}
use Rattle.sample_ring.specs.declared.writer.WriterDone.{WriterDone}
use Rattle.sample_ring.specs.declared.note.Note.{Note}
use Rattle.sample_ring.specs.declared.reader.Reader.{Reader}
use Rattle.sample_ring.specs.declared.history.History.{History}
use Rattle.sample_ring.specs.Record.{answer}

-- which ring it is
abbrev pub ring_id : Ring → TableId
ring_id ring = ring.table.shared.table_id

-- the number of its cells
abbrev pub ring_len : Ring → ℕ
ring_len ring = ring.len

-- the ring that an end belongs to
abbrev pub writer_ring : Writer → TableId
writer_ring writer = writer.seat.table_id

abbrev pub done_ring : WriterDone → TableId
done_ring done = done.seat.table_id

abbrev pub reader_ring : Reader → TableId
reader_ring reader = reader.seat.table_id

abbrev pub history_ring : History → TableId
history_ring history = history.seat.table_id

abbrev pub note_ring : Note → TableId
note_ring note = note.seat.table_id

-- the published list
abbrev pub published_by : Writer → List ℤ
published_by writer = writer.seat.me.0.published

-- the published list, to which nothing more is added
abbrev pub all_published : WriterDone → List ℤ
all_published done = done.seat.me.0.published

-- so many samples were published when the note was made
abbrev pub count_of : Note → ℕ
count_of note = note.count

-- a reader's next position
abbrev pub position_of : Reader → ℕ
position_of reader = reader.at

-- a reader knows that so many samples are published
abbrev pub known_by : Reader → ℕ
known_by reader = reader.seat.me.0.known

-- a reader's record, and its reads alone
abbrev pub record_of : Reader → Track
record_of reader = reader.seat.me.0.track

abbrev pub reads_of : Reader → List Entry
reads_of reader = (record_of reader).reads

-- a reader that has read nothing
pub record IsNew (reader : Reader) : Type 0 where
  pub nothing_read : reads_of reader ≡ []
  pub at_start : position_of reader ≡ 0
  pub nothing_known : known_by reader ≡ 0

-- one read is added to the record: at the position and with the count that the reader had, with the words that were
-- loaded, and with the result as its answer
abbrev pub AddsRead : ℕ → Reader → Got → Reader → Type 0
AddsRead len before result after = (e : Entry) × (e.at ≡ position_of before) × (e.known ≡ known_by before)
    × (reads_of after ≡ reads_of before ++ e ∷ []) × (result ≡ answer len e)

-- The answer is of this position. A sample's position is below 2^48 - 1, and a gap goes forward to a position below
-- 2^48.
abbrev pub GoesForward : ℕ → Got → Type 0
GoesForward position (Item at sample) = (at ≡ position) × (at < 2 ^ 48 - 1)
GoesForward position (Gap from to) = (from ≡ position) × (from < to) × (to < 2 ^ 48)
GoesForward position (Empty at) = (at ≡ position) × (at < 2 ^ 48 - 1)
GoesForward position (End total) = (total ≡ position) × (total < 2 ^ 48 - 1)

-- the published list of a closed ring, and the records of the readers that it was handed
abbrev pub listed : History → List ℤ
listed history = history.seat.me.0.published

abbrev pub records_of : History → List Track
records_of history = history.seat.me.0.kept
