-- A count of faults, which a source or a sink keeps in 64 bits. It never falls.
use Rattle.std.specs.Prelude.{ℕ, ◌+◌, ◌-◌, ◌≤◌, ◌^◌, min}

-- one more, but never past the greatest count
abbrev pub next_count : ℕ → ℕ
next_count count = min (count + 1) (2 ^ 64 - 1)

-- The count rose. One that stands at the greatest count has risen too, since it can show no further fault.
abbrev pub HasRisen : ℕ → ℕ → Type 0
HasRisen before now = next_count before ≤ now
