-- What eight bits at once do to the run of 1s at the end of a line. No public clause cites it.
use Rattle.std.specs.Prelude.{ℕ, ◌+◌, min, nat_lt, ◌==◌, ◌&&◌, not, Bool, true, false, List, [], ◌∷◌, if◌then◌else◌}
use Rattle.hdlc_framer.specs.BitOrder.{low_bits}

-- the run of 1s after one bit more; seven stands for more, too
abbrev pub ones_more : ℕ → Bool → ℕ
ones_more ones true = min 7 (ones + 1)
ones_more ones false = 0

-- the run after bits
abbrev pub ones_after : ℕ → List Bool → ℕ
ones_after ones [] = ones
ones_after ones (bit ∷ bits) = ones_after (ones_more ones bit) bits

-- each of the bits comes after fewer than five 1s in a row, so each is content and none ends anything
abbrev pub are_plain : ℕ → List Bool → Bool
are_plain ones [] = true
are_plain ones (bit ∷ bits) = nat_lt ones 5 && are_plain (ones_more ones bit) bits

-- none of the bits comes after six 1s in a row, so none ends a flag or an abort
abbrev pub are_quiet : ℕ → List Bool → Bool
are_quiet ones [] = true
are_quiet ones (bit ∷ bits) = not (ones == 6) && are_quiet (ones_more ones bit) bits

-- is a 0 among the bits?
abbrev pub has_zero : List Bool → Bool
has_zero [] = false
has_zero (false ∷ bits) = true
has_zero (true ∷ bits) = has_zero bits

-- the run after the bits of an octet, 8 more if they are not plain, and 16 if they are not quiet
unfoldable pub octet_step : ℕ → ℕ → ℕ
octet_step ones octet =
    if are_plain ones (low_bits 8 octet) then ones_after ones (low_bits 8 octet)
    else if are_quiet ones (low_bits 8 octet) then 8 + ones_after ones (low_bits 8 octet) else 16
