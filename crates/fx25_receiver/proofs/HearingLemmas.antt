-- Tag after tag of a bit.
use Rattle.fx25_receiver.proofs.Common.{ℕ, ◌+◌, ℤ, List, ◌++◌, HasTakenBelow, Heard, HeldLane, IsAt, LaneHasTaken}
use Rattle.fx25_receiver.proofs.Common.{Place}

-- what has been taken of the blocks of so many tags
abbrev pub HasHeardTags : HeldLane → Place → List Heard → List Heard → List Heard → List Heard → ℕ → Type 0
HasHeardTags lane place kept given now more count = (x : List ℤ) (before : List Heard) → IsAt place x
    → LaneHasTaken lane place.offset x → HasTakenBelow 1 kept x (before ++ given)
    → HasTakenBelow (count + 1) now x (before ++ more)
