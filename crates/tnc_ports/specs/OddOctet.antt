-- The octet that is left over when octets are taken in pairs. The pump keeps it between two reads; no public clause
-- cites it.
use Rattle.std.specs.Prelude.{ℕ, ℤ, List, [], ◌∷◌, Option, Some, None}
use Rattle.wav_file.specs.Samples.{sample_of}

abbrev pub odd_octet : List ℕ → Option ℕ
odd_octet [] = None
odd_octet (low ∷ []) = Some low
odd_octet (low ∷ high ∷ rest) = odd_octet rest

-- what is left over after one more octet
abbrev pub odd_after : Option ℕ → ℕ → Option ℕ
odd_after None octet = Some octet
odd_after (Some low) octet = None

-- how many octets are left over
abbrev pub count_of : Option ℕ → ℕ
count_of None = 0
count_of (Some low) = 1

-- the sample that ends with an octet
abbrev pub ended : Option ℕ → ℕ → List ℤ
ended None octet = []
ended (Some low) octet = sample_of low octet ∷ []
