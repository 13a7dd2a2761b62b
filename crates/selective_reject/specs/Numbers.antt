-- Sequence numbers (AX.25 2.2 section 4.2): packets are numbered from 0 on, and frames carry those numbers modulo 8 or
-- 128.
use Rattle.std.specs.Prelude.{◌≡◌, ℕ, ◌+◌, ◌-◌, ◌%◌, ◌⊎◌}

-- a modulus of AX.25
abbrev pub IsModulus : ℕ → Type 0
IsModulus modulus = (modulus ≡ 8) ⊎ (modulus ≡ 128)

-- how far a number of the modulus lies ahead of `from`: (number - from) modulo the modulus
unfoldable pub ahead : ℕ → ℕ → ℕ → ℕ
ahead modulus from number = (number + modulus - from % modulus) % modulus
