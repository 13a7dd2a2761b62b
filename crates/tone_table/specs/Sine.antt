-- Bell 202: a tone is a sine. One cycle is cut into 48 steps, and its amplitude is 10000.
use Rattle.std.specs.Prelude.{ℕ, ◌-◌, ◌%◌, ℤ, pos, neg_ℤ, List, [], ◌∷◌, nat_lt, nat_le, slice_index, if◌then◌else◌}

-- the first quarter of the cycle: 10000 times the sine of k forty-eighths of a cycle, rounded, for k from 0 to 12
unfoldable pub quarter : List ℕ
quarter = 0 ∷ 1305 ∷ 2588 ∷ 3827 ∷ 5000 ∷ 6088 ∷ 7071 ∷ 7934 ∷ 8660 ∷ 9239 ∷ 9659 ∷ 9914 ∷ 10000 ∷ []

-- the first half: the second quarter is the first one mirrored
unfoldable pub half_wave : ℕ → ℕ
half_wave k = if nat_le k 12 then slice_index quarter k else slice_index quarter (24 - k)

-- the whole cycle: the second half is the first one negated
unfoldable pub cycle_sample : ℕ → ℤ
cycle_sample k = if nat_lt k 24 then pos (half_wave k) else neg_ℤ (pos (half_wave (k - 24)))

-- the sample at a phase: each cycle is like the one before
unfoldable pub wave_sample : ℕ → ℤ
wave_sample phase = cycle_sample (phase % 48)
