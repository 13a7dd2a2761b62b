-- The codewords of a Reed-Solomon code, shortened or not.
use Rattle.std.specs.Prelude.{◌≡◌, ℕ, ◌-◌, ◌*◌, ◌<◌, ◌≤◌, List, ◌++◌, length, take, drop, replicate, All}
use Rattle.reed_solomon.specs.declared.code.Code.{Code}
use Rattle.reed_solomon.specs.declared.code.Zeros.{Zeros}
use Rattle.reed_solomon.specs.declared.code.Zeros.TheVariants.{Leading, Between}
use Rattle.reed_solomon.specs.Distance.{distance}
use Rattle.reed_solomon.specs.Values.{Vanishes}

-- data octets with so many zeros that are not sent
abbrev pub with_zeros : Zeros → ℕ → List ℕ → List ℕ
with_zeros Leading n octets = replicate n 0 ++ octets
with_zeros Between n octets = octets ++ replicate n 0

-- data octets and so many check octets as a word of 255 octets
unfoldable pub whole_of : Zeros → ℕ → List ℕ → List ℕ → List ℕ
whole_of zeros count octets check = with_zeros zeros (255 - count - length octets) octets ++ check

-- The last octets of a word, so many, are its check octets. The word is a codeword if, as a polynomial, it is 0 at
-- power(first_root) and the powers that follow, one for each check octet.
abbrev pub IsCodewordOf : ℕ → ℕ → Zeros → List ℕ → Type 0
IsCodewordOf first_root count zeros word =
    let n = length word - count in Vanishes first_root count (whole_of zeros count (take n word) (drop n word))

-- the same by a code
abbrev pub IsCodeword : Code → List ℕ → Type 0
IsCodeword code word = IsCodewordOf code.first_root code.check_count code.zeros word

-- v is a codeword that differs from a word in at most half as many octets as there are check octets
pub record IsWithinReach (code : Code) (word v : List ℕ) : Type 0 where
  pub size : length v ≡ length word
  pub octets : All (λ x. x < 256) v
  pub codeword : IsCodeword code v
  pub near : 2 * distance word v ≤ code.check_count
