-- Samples of 16-bit PCM: signed numbers, the low octet first.
use Rattle.std.specs.Prelude.{ℕ, List, [], ◌∷◌, ℤ}
use Rattle.std.specs.Int.{cast_signed, from_le_bytes, w16}

-- the sample of two octets
unfoldable pub sample_of : ℕ → ℕ → ℤ
sample_of low high = cast_signed w16 (from_le_bytes w16 (low ∷ high ∷ []))

-- the samples of some octets, a last odd octet left out
abbrev pub samples : List ℕ → List ℤ
samples (low ∷ high ∷ rest) = sample_of low high ∷ samples rest
samples rest = []
