-- What is kept of the numbers of bits, while a reader of blocks is awake. Each bit that a lane takes has one: the higher,
-- the surer is the bit.
use Rattle.std.specs.Prelude.{ℕ, ◌+◌, ◌-◌, ◌<◌, ◌≤◌, List, ◌++◌, length, drop}
use Rattle.fx25_blocks.specs.HeldCertainties.{StandsFor as AreKept}
use Rattle.fx25_blocks.specs.declared.certainties.Certainties.{Certainties}
use Rattle.fx25_receiver.specs.declared.resting_reader.RestingReader.{RestingReader}

-- The last numbers are kept, at least those of all bits past the first 64 that the whole reader has taken: a block begins
-- after a tag of 64 bits.
pub record KnowsNumbers (held : RestingReader) (certainties : Certainties) (numbers : List ℕ) : Type 0 where
  pub count : ℕ
  pub earlier : List ℕ
  pub within : count ≤ length numbers
  pub enough : 0 < held.awake → held.reader.taken ≤ count + 64
  pub kept : AreKept certainties (earlier ++ drop (length numbers - count) numbers)
