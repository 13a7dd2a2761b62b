-- The correlation tags of FX.25: 64 bits that say how many data octets and check octets follow them. A tag's number is
-- from 1 to 11.
use Rattle.std.specs.Prelude.{ℕ, ◌+◌, ◌-◌, ◌≤◌, Bool, true, false, List, [], ◌∷◌, slice_index}
use Rattle.hdlc_framer.specs.BitOrder.{low_bits}

abbrev pub tag_values : List ℕ
tag_values =
    0xB74DB7DF8A532F3E ∷ 0x26FF60A600CC8FDE ∷ 0xC7DC0508F3D9B09E ∷ 0x8F056EB4369660EE ∷ 0x6E260B1AC5835FAE
    ∷ 0xFF94DC634F1CFF4E ∷ 0x1EB7B9CDBC09C00E ∷ 0xDBF869BD2DBB1776 ∷ 0x3ADB0C13DEAE2836 ∷ 0xAB69DB6A543188D6
    ∷ 0x4A4ABEC4A724B796 ∷ []

abbrev pub data_counts : List ℕ
data_counts = 239 ∷ 128 ∷ 64 ∷ 32 ∷ 223 ∷ 128 ∷ 64 ∷ 32 ∷ 191 ∷ 128 ∷ 64 ∷ []

abbrev pub check_counts : List ℕ
check_counts = 16 ∷ 16 ∷ 16 ∷ 16 ∷ 32 ∷ 32 ∷ 32 ∷ 32 ∷ 64 ∷ 64 ∷ 64 ∷ []

abbrev pub IsTag : ℕ → Type 0
IsTag tag = (1 ≤ tag) × (tag ≤ 11)

-- the 64 bits of a tag as a number
unfoldable pub tag_value : ℕ → ℕ
tag_value tag = slice_index tag_values (tag - 1)

-- how many data octets follow it
unfoldable pub data_count : ℕ → ℕ
data_count tag = slice_index data_counts (tag - 1)

-- how many check octets follow those
unfoldable pub check_count : ℕ → ℕ
check_count tag = slice_index check_counts (tag - 1)

-- how many octets both are
abbrev pub block_length : ℕ → ℕ
block_length tag = data_count tag + check_count tag

-- 64 bits, the least significant first
unfoldable pub bits_of_64 : ℕ → List Bool
bits_of_64 value = low_bits 64 value

-- a tag as it is sent: its eight octets, the lowest first, each with its lowest bit first
abbrev pub tag_bits : ℕ → List Bool
tag_bits tag = bits_of_64 (tag_value tag)

-- in how many bits two lists of one length differ
abbrev pub differing : List Bool → List Bool → ℕ
differing [] ys = 0
differing (x ∷ xs) [] = 0
differing (false ∷ xs) (false ∷ ys) = differing xs ys
differing (false ∷ xs) (true ∷ ys) = 1 + differing xs ys
differing (true ∷ xs) (false ∷ ys) = 1 + differing xs ys
differing (true ∷ xs) (true ∷ ys) = differing xs ys
