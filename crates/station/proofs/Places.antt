-- A place that has a value.
use Rattle.station.proofs.Common.{◌≡◌, ℕ, ◌<◌, List, [], ◌∷◌, zero, suc, length, Option, Some, None, arith, get_or}

-- is one of the list
pub within_slots : {T : Type 0} (slots : List (Option T)) (key : ℕ) (value : T) → get_or slots key None ≡ Some value
    → key < length slots
within_slots [] key value e = absurd (cc)
within_slots (slot ∷ slots) zero value e = omega arith
within_slots (slot ∷ slots) (suc key) value e = let less = within_slots slots key value e in omega (arith, less)
