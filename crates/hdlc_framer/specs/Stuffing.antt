-- Flags and inserted zeros (AX.25 2.2 sections 3.1 and 3.6, ISO/IEC 3309).
use Rattle.std.specs.Prelude.{Bool, true, false, List, [], ◌∷◌}

-- the flag, 01111110
abbrev pub flag : List Bool
flag = false ∷ true ∷ true ∷ true ∷ true ∷ true ∷ true ∷ false ∷ []

-- A 0 stands after every five consecutive 1s, also at the end, and the count begins anew after each inserted 0.
abbrev pub stuffed : List Bool → List Bool
stuffed (true ∷ true ∷ true ∷ true ∷ true ∷ bits) = true ∷ true ∷ true ∷ true ∷ true ∷ false ∷ stuffed bits
stuffed (bit ∷ bits) = bit ∷ stuffed bits
stuffed [] = []
