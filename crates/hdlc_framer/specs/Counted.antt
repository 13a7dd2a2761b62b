-- Inserted zeros as a sender counts them: how many more 1s may come before the fifth of a run. No public clause cites
-- it.
use Rattle.std.specs.Prelude.{ℕ, zero, suc, Bool, true, false, List, [], ◌∷◌}

-- bits with inserted zeros if so many more 1s may come before the fifth of a run
abbrev pub stuffed_from : List Bool → ℕ → List Bool
stuffed_from [] left = []
stuffed_from (false ∷ bits) left = false ∷ stuffed_from bits 4
stuffed_from (true ∷ bits) zero = true ∷ false ∷ stuffed_from bits 4
stuffed_from (true ∷ bits) (suc left) = true ∷ stuffed_from bits left

-- how many may come afterwards
abbrev pub left_after : List Bool → ℕ → ℕ
left_after [] left = left
left_after (false ∷ bits) left = left_after bits 4
left_after (true ∷ bits) zero = left_after bits 4
left_after (true ∷ bits) (suc left) = left_after bits left
