-- What a command read of an input, if its source tells it.
use Rattle.std.specs.Prelude.{◌≡◌, ℕ, List, ◌++◌, Option, Some}

-- of these octets the first were read, and the source has the rest left
pub record WereRead (octets : List ℕ) (left : Option (List ℕ)) (read : List ℕ) : Type 0 where
  pub rest : List ℕ
  pub parts : octets ≡ read ++ rest
  pub left_over : left ≡ Some rest
