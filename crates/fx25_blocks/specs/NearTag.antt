-- A tag as a receiver takes it: any two tags differ in 32 bits, so 64 bits are near one tag at most.
use Rattle.std.specs.Prelude.{◌≡◌, ℕ, ◌≤◌, Bool, List, ◌++◌, length}
use Rattle.fx25_blocks.specs.Tags.{differing, tag_bits}

-- in so many bits a tag may be wrong
abbrev pub most_wrong_bits : ℕ
most_wrong_bits = 12

-- 64 bits that differ from a tag in at most 12
pub record IsNearTag (tag : ℕ) (heard : List Bool) : Type 0 where
  pub size : length heard ≡ 64
  pub near : differing heard (tag_bits tag) ≤ most_wrong_bits

-- the last 64 bits are near a tag
abbrev pub EndsTag : List Bool → ℕ → Type 0
EndsTag bits tag = (before : List Bool) × (heard : List Bool) × (bits ≡ before ++ heard) × IsNearTag tag heard
