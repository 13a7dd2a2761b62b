-- Words with unknown octets, whose places are flagged. Coding theory calls such octets erasures.
use Rattle.std.specs.Prelude.{◌≡◌, ℕ, ◌+◌, ◌*◌, ◌<◌, ◌≤◌, Bool, List, [], ◌∷◌, length, All, if◌then◌else◌}
use Rattle.reed_solomon.specs.declared.code.Code.{Code}
use Rattle.reed_solomon.specs.Codeword.{IsCodeword}
use Rattle.reed_solomon.specs.Distance.{distance}

-- how many flags are set
unfoldable pub count_true : List Bool → ℕ
count_true [] = 0
count_true (b ∷ bs) = (if b then 1 else 0) + count_true bs

-- a word with 0 in place of each unknown octet
unfoldable pub blanked : List Bool → List ℕ → List ℕ
blanked [] octets = octets
blanked (flag ∷ flags) [] = []
blanked (flag ∷ flags) (octet ∷ octets) = (if flag then 0 else octet) ∷ blanked flags octets

-- in how many octets two words differ outside the unknown places
abbrev pub distance_outside : List Bool → List ℕ → List ℕ → ℕ
distance_outside unknown word v = distance (blanked unknown word) (blanked unknown v)

-- v is a codeword that differs from a word, outside the unknown places, in at most half as many octets as there are
-- check octets beyond one for each unknown place
pub record IsWithinReachOutside (code : Code) (unknown : List Bool) (word v : List ℕ) : Type 0 where
  pub size : length v ≡ length word
  pub octets : All (λ x. x < 256) v
  pub codeword : IsCodeword code v
  pub near : count_true unknown + 2 * distance_outside unknown word v ≤ code.check_count
