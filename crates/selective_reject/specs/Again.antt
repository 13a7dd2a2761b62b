-- The numbers that SREJ asked for and that were not sent again yet (AX.25 2.2 section 4.3.2.4), each by how far it lies
-- ahead of V(A). They rise, so that the first is the lowest.
use Rattle.std.specs.Prelude.{ℕ, ◌+◌, ◌-◌, ◌≤◌, nat_lt, nat_le, List, [], ◌∷◌, ◌++◌, filter, map}

-- one number more, once
abbrev pub with_number : ℕ → List ℕ → List ℕ
with_number n numbers = filter (λ m. nat_lt m n) numbers ++ n ∷ filter (nat_lt n) numbers

-- so many packets are acknowledged: their numbers leave, and the others lie so much less far ahead
abbrev pub numbers_from : ℕ → List ℕ → List ℕ
numbers_from count numbers = map (λ m. m - count) (filter (nat_le count) numbers)

-- they rise from `low` on, below `high`
abbrev pub RisesBelow : ℕ → ℕ → List ℕ → Type 0
RisesBelow low high [] = low ≤ high
RisesBelow low high (n ∷ numbers) = (low ≤ n) × RisesBelow (n + 1) high numbers
