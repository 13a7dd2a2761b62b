-- The phase of a Bell 202 transmission runs on from bit to bit, also where the tone changes. In eight samples mark runs
-- one whole cycle and space 11/6: a window after one of mark begins where that one began, and a window after one of
-- space begins a sixth of a turn before it. One product of the two windows tells whether it does.
use Rattle.std.specs.Prelude.{Bool, ℤ, pos, ◌+ℤ◌, ◌-ℤ◌, ◌*ℤ◌, int_lt}
use Rattle.tone_table.specs.declared.tone.Tone.{Tone}
use Rattle.tone_table.specs.declared.tone.Tone.TheVariants.{Mark, Space}
use Rattle.tone_carrier.specs.declared.heard_window.HeardWindow.{HeardWindow}

-- the product of two windows in phase: both amplitudes times the cosine of the turn between them
abbrev pub in_phase : HeardWindow → HeardWindow → ℤ
in_phase before window = before.sine *ℤ window.sine +ℤ before.cosine *ℤ window.cosine

-- and a quarter of a turn off: both amplitudes times the sine of it
abbrev pub across : HeardWindow → HeardWindow → ℤ
across before window = before.cosine *ℤ window.sine -ℤ before.sine *ℤ window.cosine

-- Eight times the product of two windows, the second turned to where it ought to stand after a tone. The cosine of a
-- sixth of a turn is 4/8, and its sine about 7/8.
abbrev pub turned_product : Tone → HeardWindow → HeardWindow → ℤ
turned_product Mark before window = pos 8 *ℤ in_phase before window
turned_product Space before window = pos 4 *ℤ in_phase before window +ℤ pos 7 *ℤ across before window

-- how far a window goes on ahead from the one before it
abbrev pub ahead : HeardWindow → HeardWindow → ℤ
ahead before window = turned_product before.tone before window

-- a window runs on from the one before it: its product with that one is large beside the power of both
abbrev pub runs_on : HeardWindow → HeardWindow → Bool
runs_on before window = int_lt (pos 170 *ℤ (before.power +ℤ window.power)) (ahead before window)
