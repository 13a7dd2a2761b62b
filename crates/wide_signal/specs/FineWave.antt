-- Bell 202 at 48,000 samples a second: five samples stand where one stands at 9600, a bit has forty, and a cycle is cut
-- into 240 steps. Its amplitude is 10000.
use Rattle.std.specs.Prelude.{ℕ, ◌+◌, ◌-◌, ◌*◌, ◌/◌, ◌%◌, ◌<◌, ◌≤◌, ℤ, pos, neg_ℤ, List, [], ◌∷◌, length, map, take, nat_lt}
use Rattle.std.specs.Prelude.{nat_le, slice_index, slice_index_or, if◌then◌else◌}
use Rattle.std.specs.List.{range_with_len, sum_by}
use Rattle.tone_table.specs.declared.tone.Tone.{Tone}
use Rattle.tone_table.specs.declared.tone.Tone.TheVariants.{Mark}
use Rattle.tone_table.specs.Tones.{phase_step}
use Rattle.offset_slicers.specs.Near.{distance}
use Rattle.afsk_modulator.specs.Level.{sample_at}

-- the first quarter of the cycle: 10000 times the sine of k 240ths of a cycle, rounded, for k from 0 to 60
unfoldable pub fine_quarter : List ℕ
fine_quarter =
    0 ∷ 262 ∷ 523 ∷ 785 ∷ 1045 ∷ 1305 ∷ 1564 ∷ 1822 ∷ 2079 ∷ 2334 ∷ 2588 ∷ 2840 ∷
    3090 ∷ 3338 ∷ 3584 ∷ 3827 ∷ 4067 ∷ 4305 ∷ 4540 ∷ 4772 ∷ 5000 ∷ 5225 ∷ 5446 ∷ 5664 ∷
    5878 ∷ 6088 ∷ 6293 ∷ 6494 ∷ 6691 ∷ 6884 ∷ 7071 ∷ 7254 ∷ 7431 ∷ 7604 ∷ 7771 ∷ 7934 ∷
    8090 ∷ 8241 ∷ 8387 ∷ 8526 ∷ 8660 ∷ 8788 ∷ 8910 ∷ 9026 ∷ 9135 ∷ 9239 ∷ 9336 ∷ 9426 ∷
    9511 ∷ 9588 ∷ 9659 ∷ 9724 ∷ 9781 ∷ 9833 ∷ 9877 ∷ 9914 ∷ 9945 ∷ 9969 ∷ 9986 ∷ 9997 ∷
    10000 ∷ []

-- the first half: the second quarter is the first one mirrored
unfoldable pub fine_half : ℕ → ℕ
fine_half k = if nat_le k 60 then slice_index fine_quarter k else slice_index fine_quarter (120 - k)

-- the whole cycle: the second half is the first one negated
unfoldable pub fine_cycle : ℕ → ℤ
fine_cycle k = if nat_lt k 120 then pos (fine_half k) else neg_ℤ (pos (fine_half (k - 120)))

-- the sample at a phase, in 240ths of a cycle
unfoldable pub fine_sample : ℕ → ℤ
fine_sample phase = fine_cycle (phase % 240)

-- The phase of sample n of some tones that begin at a phase. A tone moves the phase by 6 or 11 steps of 240 with each
-- sample, which are 1200 and 2200 cycles in 48,000 samples: as many as of 48 at 9600.
abbrev pub fine_phase : ℕ → List Tone → ℕ → ℕ
fine_phase start tones n =
    start + 40 * sum_by phase_step (take (n / 40) tones) + n % 40 * phase_step (slice_index_or tones (n / 40) Mark)

-- the samples of some tones at a level, each rounded as at 9600 samples a second
abbrev pub fine_wave : ℕ → ℕ → List Tone → List ℤ
fine_wave level start tones =
    map (λ n. sample_at level (fine_sample (fine_phase start tones n))) (range_with_len 0 (40 * length tones))

-- From a place on the samples are near the wave of some tones: each is off by at most a hundredth of the level.
abbrev pub IsNearFine : ℕ → ℕ → List Tone → List ℤ → ℕ → Type 0
IsNearFine level start tones x place = (n : ℕ) → n < 40 * length tones
    → distance level (fine_sample (fine_phase start tones n)) (slice_index_or x (place + n) (pos 0)) ≤ 100 * level
