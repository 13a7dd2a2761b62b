-- The coarse count of wrong bits by which most bits are told to end no tag. No public clause cites it.
use Rattle.std.specs.Prelude.{ℕ, zero, suc, ◌+◌, ◌*◌, ◌/◌, ◌%◌, ◌^◌, min, List, [], ◌∷◌, map}
use Rattle.hdlc_framer.specs.BitOrder.{low_bits}
use Rattle.fx25_blocks.specs.Tags.{differing, tag_value}

abbrev pub tag_numbers : List ℕ
tag_numbers = 1 ∷ 2 ∷ 3 ∷ 4 ∷ 5 ∷ 6 ∷ 7 ∷ 8 ∷ 9 ∷ 10 ∷ 11 ∷ []

-- fields of five bits as one number, the lowest first
unfoldable pub packed : List ℕ → ℕ
packed [] = 0
packed (field ∷ fields) = field + 32 * packed fields

-- in how many of eight bits, the lowest of a number, a piece differs from that of a tag, but at most four
unfoldable pub coarse : ℕ → ℕ → ℕ → ℕ
coarse piece eight tag = min 4 (differing (low_bits 8 eight) (low_bits 8 (tag_value tag / 2 ^ (8 * piece))))

-- the counts of a piece for all tags
unfoldable pub row_at : ℕ → ℕ → ℕ
row_at piece eight = packed (map (coarse piece eight) tag_numbers)

-- the count for a tag after so many pieces
abbrev pub coarse_total : ℕ → ℕ → ℕ → ℕ
coarse_total register zero tag = 3
coarse_total register (suc pieces) tag =
    coarse_total register pieces tag + coarse pieces (register / 2 ^ (8 * pieces) % 256) tag
