-- Making the readers of a new ring, one by one.
use Rattle.sample_ring.proofs.Common.{◌≡◌, ℕ, List, [], length, All, TableId, Reader, writer_ring, reader_ring}
use Rattle.sample_ring.specs.declared.writer.Writer.{Writer}
use Rattle.sample_ring.specs.Ends.{published_by, IsNew}

-- so many readers were made, each new and of the ring
pub record HasMade (ring : TableId) (writer : Writer) (ends : List Reader) (count : ℕ) : Type 0 where
  pub same_ring : writer_ring writer ≡ ring
  pub nothing : published_by writer ≡ []
  pub many : length ends ≡ count
  pub all_new : All (λ reader. (reader_ring reader ≡ ring) × IsNew reader) ends
