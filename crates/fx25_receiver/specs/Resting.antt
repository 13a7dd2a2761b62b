-- What a reader of blocks that mostly rests keeps of the bits that it took: the last 64, and while a block can still end
-- or is coming in, a whole reader of the bits from some place on.
use Rattle.std.specs.Prelude.{◌≡◌, ℕ, ◌+◌, ◌<◌, ◌≤◌, Bool, List, length, take, drop}
use Rattle.fx25_blocks.specs.Held.{StandsFor as ReaderStandsFor, after_zeros}
use Rattle.fx25_blocks.specs.NearTag.{EndsTag}
use Rattle.fx25_blocks.specs.Tags.{IsTag, bits_of_64}
use Rattle.fx25_blocks.specs.declared.block_reader.BlockReader.{BlockReader}
use Rattle.fx25_receiver.specs.declared.resting_reader.RestingReader.{RestingReader}

-- so many bits after its tag no block ends, and none is coming in: the longest has 2040, and holds for 64 more
abbrev pub over_after : ℕ
over_after = 2105

-- each tag that ends in front of a place below `end` is over after so many bits
abbrev pub AreOver : ℕ → ℕ → List Bool → Type 0
AreOver end count bits =
    (tag place : ℕ) → IsTag tag → place < end → place ≤ length bits → EndsTag (take place bits) tag
    → place + over_after ≤ count

-- the reader has taken the bits from a place on, and every tag that is not wholly among them is over
pub record ReadsFrom (start : ℕ) (reader : BlockReader) (bits : List Bool) : Type 0 where
  pub within : start ≤ length bits
  pub enough : 0 < start → start + 64 ≤ length bits
  pub reader_stands : ReaderStandsFor reader (drop start bits)
  pub missed : AreOver (start + 64) (length bits) bits

-- The reader has taken these bits. A tag that ends in front of a place below `end` is over before it rests.
pub record HasRead (end : ℕ) (held : RestingReader) (bits : List Bool) : Type 0 where
  pub register_is : bits_of_64 held.register ≡ drop (length bits) (after_zeros bits)
  pub enough : 64 ≤ length bits + held.awake
  pub quiet : AreOver end (length bits + held.awake) bits
  pub reads : 0 < held.awake → (start : ℕ) × ReadsFrom start held.reader bits

-- every tag is: so the reader rests only if no block can end, and none is coming in
abbrev pub StandsFor : RestingReader → List Bool → Type 0
StandsFor held bits = HasRead (length bits + 1) held bits

-- every tag but one that ends with the last bit
abbrev pub StandsButForTag : RestingReader → List Bool → Type 0
StandsButForTag held bits = HasRead (length bits) held bits

-- a reader that rests, with these last 64 bits, has taken these bits
abbrev pub RestsAt : ℕ → BlockReader → List Bool → Type 0
RestsAt register reader bits = StandsFor (record { reader = reader; register = register; awake = 0 }) bits

-- these are the last 64 bits, with zeros before the first
abbrev pub IsLast64 : ℕ → List Bool → Type 0
IsLast64 register bits = bits_of_64 register ≡ drop (length bits) (after_zeros bits)
