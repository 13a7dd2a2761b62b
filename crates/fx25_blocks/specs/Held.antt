-- What a reader keeps of the bits that it took. Public clauses cite `StandsFor` alone.
use Rattle.std.specs.Prelude.{◌≡◌, ℕ, ◌+◌, ◌-◌, ◌%◌, ◌<◌, ◌≤◌, ◌↔◌, min, Bool, true, false, List, ◌++◌, length, take, drop}
use Rattle.std.specs.Prelude.{◌*◌, replicate, slice_index, slice_index_or}
use Rattle.fx25_blocks.specs.Coming.{IsComingFor}
use Rattle.fx25_blocks.specs.NearTag.{EndsTag}
use Rattle.fx25_blocks.specs.Tags.{IsTag, bits_of_64, block_length}
use Rattle.fx25_blocks.specs.declared.block_reader.BlockReader.{BlockReader}

-- 64 zeros and then the bits
unfoldable pub after_zeros : List Bool → List Bool
after_zeros bits = replicate 64 false ++ bits

-- the tag that ends with the last bit, if this is its number, and 0 if there is none
abbrev pub IsTagAt : ℕ → List Bool → Type 0
IsTagAt kept bits = (tag : ℕ) → IsTag tag → (kept ≡ tag) ↔ EndsTag bits tag

-- a block of the tag may end in front of a place, since the tag ends in the bits where such a block has it
pub record MayEnd (tag place : ℕ) (bits : List Bool) : Type 0 where
  pub is_tag : IsTag tag
  pub within : place ≤ length bits + 8 * block_length tag
  pub ends : EndsTag (take (place - 8 * block_length tag) bits) tag

-- The bit at a place, the tag that ends in front of it, and whether a block may end there, are kept at the remainder of
-- the place by 2048.
pub record Kept (ring : List Bool) (tags : List ℕ) (due : List Bool) (register next taken : ℕ) (bits : List Bool)
    : Type 0 where
  pub ring_size : length ring ≡ 2048
  pub tags_size : length tags ≡ 2048
  pub due_size : length due ≡ 2048
  pub next_is : next ≡ length bits % 2048
  pub taken_is : taken ≡ min 2104 (length bits)
  pub register_is : bits_of_64 register ≡ drop (length bits) (after_zeros bits)
  pub bits_kept : (i : ℕ) → i < length bits → length bits ≤ i + 2048
      → slice_index_or ring (i % 2048) false ≡ slice_index_or bits i false
  pub tags_kept : (i : ℕ) → 64 ≤ i → i ≤ length bits → length bits < i + 2048
      → IsTagAt (slice_index tags (i % 2048)) (take i bits)
  pub due_kept : (i : ℕ) → length bits ≤ i → i < length bits + 2048
      → (tag : ℕ) → MayEnd tag i bits → slice_index_or due (i % 2048) false ≡ true

-- for so many bits, the last one among them, a block is coming in
abbrev pub ComesFor : ℕ → List Bool → Type 0
ComesFor count bits = (more : ℕ) → (more < count) ↔ IsComingFor more bits

-- the reader has taken these bits
pub record StandsFor (reader : BlockReader) (bits : List Bool) : Type 0 where
  pub kept : Kept reader.bits reader.tags reader.due reader.register reader.next reader.taken bits
  pub comes : ComesFor reader.coming bits

-- the tag ends in front of the last bits, as many as its block has
pub record HasTag (tag : ℕ) (bits : List Bool) : Type 0 where
  pub within : 8 * block_length tag ≤ length bits
  pub ends : EndsTag (take (length bits - 8 * block_length tag) bits) tag
