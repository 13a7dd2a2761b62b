-- The time of a run, in hours, minutes and seconds, as ticks of 10 ms tell it. It begins with 00:00:00 and starts anew
-- after 24 hours.
use Rattle.std.specs.Prelude.{ℕ, ◌+◌, ◌/◌, ◌%◌, List, [], ◌∷◌, ◌++◌, codes}

abbrev pub two_digits : ℕ → List ℕ
two_digits n = (48 + n / 10) ∷ (48 + n % 10) ∷ []

-- `hh:mm:ss` after so many ticks
abbrev pub clock_text : ℕ → List ℕ
clock_text ticks =
    two_digits (ticks / 360000 % 24) ++ (codes ":" ++ (two_digits (ticks / 6000 % 60)
    ++ (codes ":" ++ two_digits (ticks / 100 % 60))))
