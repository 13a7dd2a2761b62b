-- The samples of one tone, one more at a time.
use Rattle.std.proofs.Common.{◌≡◌, ℕ, ◌+◌, ◌*◌, ◌%◌, ◌<◌, ◌≤◌, ℤ, List, [], ◌∷◌, ◌++◌, length, map, take, set}
use Rattle.std.proofs.Common.{unsigned_abs, FitsSigned, to_z, of_z, sym, ap, ◌∙◌, zero-add, arith}
use Rattle.std.specs.List.{range_with_len}
use Rattle.std.proofs.lemmas.Int.{ints, to_z-of_z}
use Rattle.std.proofs.lemmas.List.{take_more_set, take_all}
use Rattle.std.proofs.lemmas.List.FromFn.{map-range_with_len_more}
use Rattle.std.proofs.Math.Nat.{mod-mod}
use mir.Syntax.{w16}
use Rattle.tone_table.specs.declared.tone.Tone.{Tone}
use Rattle.tone_table.specs.Sine.{cycle_sample, wave_sample}
use Rattle.tone_table.specs.Tones.{phase_step}
use Rattle.tone_table.specs.Wave.{pure_window}
use Rattle.afsk_modulator.specs.Level.{sample_at, at_level}
use Rattle.afsk_modulator.specs.Modulation.{Modulation, tone_window}

-- a sample of a tone
abbrev pub tone_sample : Modulation → Tone → ℕ → ℤ
tone_sample m tone i = sample_at m.level (wave_sample (m.phase + i * phase_step tone))

-- the first samples of a tone
abbrev pub samples_below : ℕ → Modulation → Tone → List ℤ
samples_below count m tone = map (tone_sample m tone) (range_with_len 0 count)

-- whole cycles change no sample
wave_sample-mod : (phase : ℕ) → wave_sample (phase % 48) ≡ wave_sample phase
unfolding wave_sample
wave_sample-mod phase = ap cycle_sample (mod-mod phase 48)

-- one sample more
pub samples_more : (m : Modulation) (place step at : ℕ) (tone : Tone) (window : List ℤ) (pure sample : ℤ)
    → place < length window
    → take place window ≡ samples_below place m tone → step ≡ phase_step tone → at ≡ (m.phase + place * step) % 48
    → pure ≡ wave_sample at → unsigned_abs pure ≤ 10000 → sample ≡ sample_at m.level (to_z w16 (of_z w16 pure))
    → unsigned_abs sample ≤ m.level → m.level ≤ 32767
    → take (place + 1) (set window place (to_z w16 (of_z w16 sample))) ≡ samples_below (place + 1) m tone
samples_more m place step at tone window pure sample below so_far is_step is_at is_pure low is small most =
    let fits : FitsSigned w16 sample = search (arith, ints) in
    let pure_fits : FitsSigned w16 pure = search (arith, ints) in
    let now : to_z w16 (of_z w16 sample) ≡ tone_sample m tone place =
    to_z-of_z w16 sample fits ∙ is ∙ ap (sample_at m.level)
    (to_z-of_z w16 pure pure_fits ∙ is_pure ∙ ap wave_sample is_at ∙ wave_sample-mod (m.phase + place * step)
    ∙ ap (λ s. wave_sample (m.phase + place * s)) is_step) in
    take_more_set window place (to_z w16 (of_z w16 sample)) below
    ∙ ap (λ xs. xs ++ to_z w16 (of_z w16 sample) ∷ []) so_far
    ∙ ap (λ z. samples_below place m tone ++ z ∷ []) now
    ∙ sym (map-range_with_len_more (tone_sample m tone) 0 place place (zero-add place))

-- all eight of them
pub samples_all : (m : Modulation) (place : ℕ) (tone : Tone) (window : List ℤ) → place ≡ 8 → length window ≡ 8
    → take place window ≡ samples_below place m tone → window ≡ tone_window m tone
unfolding pure_window at_level
samples_all m place tone window all whole so_far =
    sym (take_all place window (omega arith)) ∙ so_far ∙ ap (λ n. samples_below n m tone) all
