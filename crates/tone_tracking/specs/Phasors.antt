-- Phasors in whole numbers: (a, b) stands for a + b w, w being a sixth of a turn, so that w * w = w - 1.
use Rattle.std.specs.Prelude.{ℕ, ◌≤◌, ℤ, pos, ◌+ℤ◌, ◌*ℤ◌, neg_ℤ, unsigned_abs}
use Rattle.std.specs.Int.{int_div_euclid}
use Rattle.tone_table.specs.declared.tone.Tone.{Tone}
use Rattle.tone_table.specs.declared.tone.Tone.TheVariants.{Mark, Space}
use Rattle.tone_tracking.specs.declared.phasor.Phasor.{Phasor}

-- no amplitude
abbrev pub none : Phasor
none = record { a = pos 0; b = pos 0 }

abbrev pub plus : Phasor → Phasor → Phasor
plus p q = record { a = p.a +ℤ q.a; b = p.b +ℤ q.b }

-- How a phasor turns from one window of a tone to the one before it: mark runs a whole cycle in a window, and space
-- 11/6 of one, so that it is a sixth of a turn short.
abbrev pub turn : Tone → Phasor → Phasor
turn Mark p = p
turn Space p = record { a = neg_ℤ p.b; b = p.a +ℤ p.b }

-- and to the window after it
abbrev pub turn_back : Tone → Phasor → Phasor
turn_back Mark p = p
turn_back Space p = record { a = p.a +ℤ p.b; b = neg_ℤ p.a }

-- the square of the amplitude of a + b w
abbrev pub size : Phasor → ℤ
size p = (p.a *ℤ p.a +ℤ p.a *ℤ p.b) +ℤ p.b *ℤ p.b

-- three quarters of a number, rounded down
abbrev pub three_quarters_of : ℤ → ℤ
three_quarters_of z = int_div_euclid (pos 3 *ℤ z) (pos 4)

-- three quarters of each part
abbrev pub three_quarters : Phasor → Phasor
three_quarters p = record { a = three_quarters_of p.a; b = three_quarters_of p.b }

-- Neither part is above a number, nor their sum. No turn changes the largest of the three.
pub record IsWithin (most : ℕ) (p : Phasor) : Type 0 where
  pub first : unsigned_abs p.a ≤ most
  pub second : unsigned_abs p.b ≤ most
  pub both : unsigned_abs (p.a +ℤ p.b) ≤ most
