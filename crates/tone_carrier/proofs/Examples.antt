-- Worked examples, computed on the definitions.
use Rattle.std.proofs.Common.{◌≡◌, ℕ, ℤ, pos, negsuc, ◌+ℤ◌, ◌*ℤ◌, List, [], ◌∷◌, map, replicate, false, refl}
use Rattle.std.specs.List.{range_with_len}
use Rattle.tone_table.specs.declared.tone.Tone.{Tone}
use Rattle.tone_table.specs.declared.tone.Tone.TheVariants.{Mark, Space}
use Rattle.tone_table.specs.Sine.{wave_sample, cycle_sample, half_wave, quarter}
use Rattle.tone_table.specs.Wave.{pure_window, wave}
use Rattle.offset_slicers.specs.Decision.{sum_below, sine_sum, cosine_sum, energy, tone_of}
use Rattle.offset_slicers.specs.Windows.{window_at}
use Rattle.tone_carrier.specs.declared.heard_window.HeardWindow.{HeardWindow}
use Rattle.tone_carrier.specs.HeardWindows.{heard_window, power, sum_of, square_sum_of}
use Rattle.tone_carrier.specs.RunsOn.{ahead, runs_on}
use Rattle.tone_carrier.specs.Evidence.{evidence}
use Rattle.tone_carrier.specs.Tones.{heard_windows}

abbrev heard : Tone → ℤ → ℤ → ℕ → HeardWindow
heard tone sine cosine power = record { tone = tone; sine = sine; cosine = cosine; power = pos power }

-- the wave of eight bits
abbrev tones : List Tone
tones = Mark ∷ Space ∷ Space ∷ Mark ∷ Mark ∷ Space ∷ Mark ∷ Space ∷ []

abbrev first : HeardWindow
first = heard Mark (pos 1562485) (pos 0) 25599754496

abbrev second : HeardWindow
second = heard Space (pos 1427169) (pos 103919) 23021878928

abbrev third : HeardWindow
third = heard Space (pos 623599) (negsuc 1418417) 25006718852

abbrev fourth : HeardWindow
fourth = heard Mark (negsuc 781242) (negsuc 1353113) 25598672000

abbrev in_step : List HeardWindow
in_step =
    first ∷ second ∷ third ∷ fourth ∷ fourth ∷ heard Space (negsuc 803585) (negsuc 1522310) 28167131328
    ∷ heard Mark (negsuc 1562485) (pos 0) 25599754496
    ∷ heard Space (negsuc 1427169) (negsuc 103919) 23021878928
    ∷ []

windows_in_step : heard_windows 0 (wave tones) ≡ in_step
unfolding pure_window wave_sample cycle_sample half_wave quarter sum_below sine_sum cosine_sum energy tone_of window_at
    sum_of square_sum_of power heard_window heard_windows
windows_in_step = refl

aheads : ahead first second ∷ ahead second third ∷ ahead third fourth ∷ ahead fourth fourth ∷ []
    ≡ pos 17839441239720 ∷ pos 17594204206217 ∷ pos 19391903296400 ∷ pos 19530064976360 ∷ []
aheads = refl

-- and 170 times the power of both windows, which each is above
powers : (pos 170 *ℤ (first.power +ℤ second.power)) ∷ (pos 170 *ℤ (second.power +ℤ third.power))
    ∷ (pos 170 *ℤ (third.power +ℤ fourth.power))
    ∷ (pos 170 *ℤ (fourth.power +ℤ fourth.power))
    ∷ []
    ≡ pos 8265677682080 ∷ pos 8164861622600 ∷ pos 8602916444840 ∷ pos 8703548480000 ∷ []
powers = refl

evidence_in_step : map (evidence in_step) (range_with_len 0 8) ≡ 0 ∷ 2 ∷ 3 ∷ 5 ∷ 6 ∷ 8 ∷ 10 ∷ 12 ∷ []
unfolding evidence
evidence_in_step = refl

-- half a bit out of step a change of tone falls into each window
evidence_out_of_step : map (evidence (heard_windows 4 (wave tones))) (range_with_len 0 7)
    ≡ 0 ∷ 0 ∷ 1 ∷ 0 ∷ 1 ∷ 0 ∷ 0 ∷ []
unfolding pure_window wave_sample cycle_sample half_wave quarter sum_below sine_sum cosine_sum energy tone_of window_at
    sum_of square_sum_of power heard_window heard_windows evidence
evidence_out_of_step = refl

-- at level 10, with samples rounded towards zero
abbrev quiet_first : List ℤ
quiet_first = pos 0 ∷ pos 7 ∷ pos 10 ∷ pos 7 ∷ pos 0 ∷ negsuc 6 ∷ negsuc 9 ∷ negsuc 6 ∷ []

abbrev quiet_second : List ℤ
quiet_second = pos 0 ∷ pos 9 ∷ pos 2 ∷ negsuc 8 ∷ negsuc 4 ∷ pos 7 ∷ pos 7 ∷ negsuc 5 ∷ []

quiet_is_heard : heard_window quiet_first ≡ heard Mark (pos 1554) (pos 0) 25344
unfolding wave_sample cycle_sample half_wave quarter sum_below sine_sum cosine_sum energy tone_of
    sum_of square_sum_of power heard_window
quiet_is_heard = refl

quiet_runs_on : ahead (heard_window quiet_first) (heard_window quiet_second) ≡ pos 16708608
unfolding wave_sample cycle_sample half_wave quarter sum_below sine_sum cosine_sum energy tone_of
    sum_of square_sum_of power heard_window
quiet_runs_on = refl

abbrev quiet : List HeardWindow
quiet =
    heard Mark (pos 1554) (pos 0) 25344 ∷ heard Space (pos 1344) (pos 94) 20625
    ∷ heard Space (pos 584) (negsuc 1325) 22032
    ∷ heard Mark (negsuc 777) (negsuc 1232) 22272
    ∷ heard Mark (negsuc 777) (negsuc 1232) 22272
    ∷ heard Space (negsuc 754) (negsuc 1429) 24833
    ∷ heard Mark (negsuc 1554) (pos 0) 25344
    ∷ heard Space (negsuc 1344) (negsuc 94) 20625
    ∷ []

quiet_evidence : map (evidence quiet) (range_with_len 0 8) ≡ 0 ∷ 2 ∷ 3 ∷ 5 ∷ 6 ∷ 8 ∷ 10 ∷ 12 ∷ []
unfolding evidence
quiet_evidence = refl

-- a constant does not run on, and neither does silence
constant_is_heard : heard_window (replicate 8 (pos 100)) ≡ heard Space (pos 2804) (negsuc 952) 640000
unfolding wave_sample cycle_sample half_wave quarter sum_below sine_sum cosine_sum energy tone_of
    sum_of square_sum_of power heard_window
constant_is_heard = refl

constant_ahead : ahead (heard Space (pos 2804) (negsuc 952) 640000) (heard Space (pos 2804) (negsuc 952) 640000)
    ≡ pos 35082500
constant_ahead = refl

silence_stands_still : runs_on (heard Mark (pos 0) (pos 0) 0) (heard Mark (pos 0) (pos 0) 0) ≡ false
silence_stands_still = refl
