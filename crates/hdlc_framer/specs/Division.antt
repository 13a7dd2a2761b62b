-- What a remainder is, with no word of how it is found.
use Rattle.std.specs.Prelude.{◌≡◌, ◌+◌, Bool, true, false, List, [], ◌∷◌, ◌++◌, length, replicate}
use Rattle.hdlc_framer.specs.CheckSequence.{add_front, generator_rest}

-- a polynomial times the generator x^16 + x^12 + x^5 + 1
abbrev pub times_generator : List Bool → List Bool
times_generator [] = replicate 16 false
times_generator (false ∷ q) = false ∷ times_generator q
times_generator (true ∷ q) = true ∷ add_front generator_rest (times_generator q)

-- p is some polynomial times the generator, and r, which has no power above x^15
pub record IsRemainder (p r : List Bool) : Type 0 where
  pub size : length r ≡ 16
  pub quotient : (q : List Bool) × (length q + 16 ≡ length p)
      × (p ≡ add_front (times_generator q) (replicate (length q) false ++ r))
