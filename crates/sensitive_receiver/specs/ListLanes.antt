-- Which of the added lanes follow the slow clock on a list of tones.
use Rattle.std.specs.Prelude.{ℕ, ◌+◌, ◌<◌, ◌≤◌}
use Rattle.tone_tracking.specs.declared.reach.Reach.{Reach}
use Rattle.tone_tracking.specs.declared.reach.Reach.TheVariants.{Alone, Near, Far}

-- the first of the three lanes that follow the slow clock on a list
abbrev pub first_slow : Reach → ℕ
first_slow Alone = 23
first_slow Near = 16
first_slow Far = 19

-- these lanes, from the lowest on
abbrev pub lane_of : Reach → ℕ → ℕ
lane_of reach k = first_slow reach + k

-- a lane is one of them
abbrev pub IsSlowOn : Reach → ℕ → Type 0
IsSlowOn reach lane = (first_slow reach ≤ lane) × (lane < first_slow reach + 3)
