-- The wave of short-wave packet, one tone and one sample more at a time.
use Rattle.hf_sender.proofs.Common.{◌≡◌, ℕ, ◌+◌, ◌*◌, ◌%◌, ◌<◌, ◌≤◌, ℤ, List, [], ◌∷◌, ◌++◌, length, take, set}
use Rattle.hf_sender.proofs.Common.{unsigned_abs, FitsSigned, to_z, of_z, append_assoc, refl, sym, ap, ◌∙◌, arith}
use Rattle.hf_sender.proofs.Common.{range_with_len, ints, to_z-of_z, append-nil, take_more_set, take_all, w16, Tone}
use Rattle.hf_sender.proofs.Common.{cycle_sample, wave_sample, sample_at, at_level, phase_step, next_phase, pure_window}
use Rattle.hf_sender.proofs.Common.{wave, wave_from, phase_from, length-append, Modulation, hf_start, hf_window}
use Rattle.hf_sender.proofs.Common.{hf_after}
use Rattle.std.proofs.Common.{map, zero-add}
use Rattle.std.proofs.lemmas.List.FromFn.{map-range_with_len_more}
use Rattle.std.proofs.Math.Nat.{mod-mod}
use Rattle.afsk_modulator.proofs.LevelLemmas.{at_level-append}

-- ---- tones

pub phase_from-append : (phase : ℕ) (ts us : List Tone) → phase_from phase (ts ++ us)
    ≡ phase_from (phase_from phase ts) us
phase_from-append phase [] us = refl
phase_from-append phase (t ∷ ts) us = phase_from-append (next_phase phase t) ts us

-- the wave of two lists of tones, one after the other
wave_from-append : (phase : ℕ) (ts us : List Tone)
    → wave_from phase (ts ++ us) ≡ wave_from phase ts ++ wave_from (phase_from phase ts) us
wave_from-append phase [] us = refl
wave_from-append phase (t ∷ ts) us =
    ap (λ samples. pure_window phase t ++ samples) (wave_from-append (next_phase phase t) ts us)
    ∙ sym (append_assoc (pure_window phase t) (wave_from (next_phase phase t) ts)
    (wave_from (phase_from (next_phase phase t) ts) us))

-- where a wave goes on after one tone more
pub hf_after-push : (start : Modulation) (tones : List Tone) (tone : Tone) (now : Modulation)
    → now ≡ hf_after start tones → hf_after now (tone ∷ []) ≡ hf_after start (tones ++ tone ∷ [])
hf_after-push start tones tone now at =
    ap (λ m. hf_after m (tone ∷ [])) at
    ∙ ap (λ phase. record start { phase = phase }) (sym (phase_from-append start.phase tones (tone ∷ [])))

-- the wave of two lists of tones, one after the other, at a level
pub wave-append : (level : ℕ) (ts us : List Tone)
    → at_level level (wave (ts ++ us)) ≡ at_level level (wave ts) ++ at_level level (wave_from (phase_from 0 ts) us)
wave-append level ts us =
    ap (at_level level) (wave_from-append 0 ts us) ∙ at_level-append level (wave ts) (wave_from (phase_from 0 ts) us)

-- the wave of one tone more, at a level
pub wave-push : (level : ℕ) (tones : List Tone) (tone : Tone) (now : Modulation) → now ≡ hf_after (hf_start level) tones
    → at_level level (wave (tones ++ tone ∷ [])) ≡ at_level level (wave tones) ++ hf_window now tone
wave-push level tones tone now at =
    wave-append level tones (tone ∷ [])
    ∙ ap (λ w. at_level level (wave tones) ++ at_level level w) (append-nil (pure_window (phase_from 0 tones) tone))
    ∙ ap (λ m. at_level level (wave tones) ++ hf_window m tone) (sym at)

length-pure_window : (phase : ℕ) (tone : Tone) → length (pure_window phase tone) ≡ 32
unfolding pure_window
length-pure_window phase tone = refl

pub length-wave_from : (phase : ℕ) (tones : List Tone) → length (wave_from phase tones) ≡ 32 * length tones
length-wave_from phase [] = refl
length-wave_from phase (tone ∷ tones) = omega (
  arith,
  length-append (pure_window phase tone) (wave_from (next_phase phase tone) tones),
  length-pure_window phase tone,
  length-wave_from (next_phase phase tone) tones,
)

-- ---- the samples of a tone

-- a sample of a tone
abbrev pub tone_sample : ℕ → ℕ → Tone → ℕ → ℤ
tone_sample level phase tone i = sample_at level (wave_sample (phase + i * phase_step tone))

-- the first samples of a tone
abbrev pub samples_below : ℕ → ℕ → ℕ → Tone → List ℤ
samples_below count level phase tone = map (tone_sample level phase tone) (range_with_len 0 count)

-- whole cycles change no sample
wave_sample-mod : (phase : ℕ) → wave_sample (phase % 48) ≡ wave_sample phase
unfolding wave_sample
wave_sample-mod phase = ap cycle_sample (mod-mod phase 48)

-- one sample more
pub samples_more : (level phase place step at : ℕ) (tone : Tone) (window : List ℤ) (pure sample : ℤ)
    → place < length window
    → take place window ≡ samples_below place level phase tone → step ≡ phase_step tone
    → at ≡ (phase + place * step) % 48
    → pure ≡ wave_sample at → unsigned_abs pure ≤ 10000 → sample ≡ sample_at level (to_z w16 (of_z w16 pure))
    → unsigned_abs sample ≤ level → level ≤ 32767
    → take (place + 1) (set window place (to_z w16 (of_z w16 sample))) ≡ samples_below (place + 1) level phase tone
samples_more level phase place step at tone window pure sample below so_far is_step is_at is_pure low is small most =
    let fits : FitsSigned w16 sample = search (arith, ints) in
    let pure_fits : FitsSigned w16 pure = search (arith, ints) in
    let now : to_z w16 (of_z w16 sample) ≡ tone_sample level phase tone place =
    to_z-of_z w16 sample fits ∙ is ∙ ap (sample_at level)
    (to_z-of_z w16 pure pure_fits ∙ is_pure ∙ ap wave_sample is_at ∙ wave_sample-mod (phase + place * step)
    ∙ ap (λ s. wave_sample (phase + place * s)) is_step) in
    take_more_set window place (to_z w16 (of_z w16 sample)) below
    ∙ ap (λ xs. xs ++ to_z w16 (of_z w16 sample) ∷ []) so_far
    ∙ ap (λ z. samples_below place level phase tone ++ z ∷ []) now
    ∙ sym (map-range_with_len_more (tone_sample level phase tone) 0 place place (zero-add place))

-- all 32 of them
pub samples_all : (level phase place : ℕ) (tone : Tone) (window : List ℤ) → place ≡ 32 → length window ≡ 32
    → take place window ≡ samples_below place level phase tone → window ≡ at_level level (pure_window phase tone)
unfolding pure_window at_level
samples_all level phase place tone window all whole so_far =
    sym (take_all place window (omega arith)) ∙ so_far ∙ ap (λ n. samples_below n level phase tone) all
