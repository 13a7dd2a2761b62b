-- The chunks of a RIFF file (Multimedia Programming Interface and Data Specifications 1.0, "Resource Interchange File
-- Format"): four letters, a size of four octets, the lowest first, the contents, and padding if their number is odd.
use Rattle.std.specs.Prelude.{ℕ, zero, suc, ◌+◌, ◌%◌, nat_lt, if◌then◌else◌, List, [], ◌∷◌, length, take, drop}
use Rattle.byteorder.specs.Endian.{little_number}

pub record Chunk : Type 0 where
  -- the place of its first octet in the file
  pub place : ℕ
  -- its four letters
  pub name : List ℕ
  -- how many octets its contents have
  pub size : ℕ
  -- all octets after its head, to the end of input
  pub trailing : List ℕ

-- contents of so many octets, with their padding
abbrev pub padded : ℕ → ℕ
padded size = size + size % 2

-- the chunk whose head of eight octets stands at the front of these octets
abbrev pub chunk_at : ℕ → List ℕ → Chunk
chunk_at place octets = record {
  place = place;
  name = take 4 octets;
  size = little_number 4 (drop 4 octets);
  trailing = drop 8 octets;
}

-- at most so many chunks, one after the other
abbrev pub chunks_upto : ℕ → ℕ → List ℕ → List Chunk
chunks_upto zero place octets = []
chunks_upto (suc most) place octets =
    if nat_lt (length octets) 8 then [] else
    let chunk = chunk_at place octets in
    chunk ∷ chunks_upto most (place + 8 + padded chunk.size) (drop (padded chunk.size) chunk.trailing)

-- The chunks of these octets, the first of which stands at a place of the file. A head that is cut short is no chunk;
-- the last chunk's contents may be cut short. A chunk has eight octets at least, so there are no more than octets.
unfoldable pub chunks : ℕ → List ℕ → List Chunk
chunks place octets = chunks_upto (length octets) place octets
