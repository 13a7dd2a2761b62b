-- The samples of a wave and of a signal: how many, and each by its place.
use Rattle.clean_signal.proofs.Common.{◌≡◌, ℕ, zero, suc, ◌+◌, ◌-◌, ◌*◌, ◌%◌, ◌<◌, ℤ, pos, List, [], ◌∷◌, ◌++◌, length}
use Rattle.clean_signal.proofs.Common.{get_or, take, replicate, refl, ap, ◌∙◌, arith, length-append, append-nil}
use Rattle.clean_signal.proofs.Common.{length-replicate, flat_map-append, Tone, Mark, pure_window, wave_from, wave}
use Rattle.clean_signal.proofs.Common.{line, length-line_from, transmission, Transmission, samples_of, signal, body_of}
use Rattle.clean_signal.proofs.Common.{sample_count}
use Rattle.std.proofs.lemmas.List.{get_or_append_left, get_or-append_right}
use Rattle.std.proofs.lemmas.List.FromFn.{get_or-map-range_with_len}
use Rattle.std.proofs.lemmas.List.Sums.{sum_by-cons}
use Rattle.tone_table.specs.Sine.{cycle_sample, wave_sample}
use Rattle.tone_table.specs.Tones.{phase_step, next_phase}
use Rattle.offset_slicers.proofs.WaveLemmas.{length-pure_window}
use Rattle.clean_signal.specs.WavePlace.{phase_at}

pub length-wave_from : (phase : ℕ) (tones : List Tone) → length (wave_from phase tones) ≡ 8 * length tones
length-wave_from phase [] = refl
length-wave_from phase (tone ∷ tones) =
    omega (
      arith,
      length-append (pure_window phase tone) (wave_from (next_phase phase tone) tones),
      length-pure_window phase tone,
      length-wave_from (next_phase phase tone) tones,
    )

-- ---- by place

wave_sample-mod : (p q : ℕ) → p % 48 ≡ q % 48 → wave_sample p ≡ wave_sample q
unfolding wave_sample
wave_sample-mod p q same = ap cycle_sample same

-- a sample of the first window
first_window : (phase : ℕ) (tone : Tone) (rest : List ℤ) (i : ℕ) → i < 8
    → get_or (pure_window phase tone ++ rest) i (pos 0) ≡ wave_sample (phase + i * phase_step tone)
unfolding pure_window
first_window phase tone rest i below =
    get_or_append_left (pure_window phase tone) rest (pos 0) i below
    ∙ get_or-map-range_with_len (λ n. wave_sample (phase + n * phase_step tone)) 0 8 i i (pos 0) below (omega arith)

-- the samples of a wave from a phase on
pub wave_from-place : (tones : List Tone) (phase j i : ℕ) → j < length tones → i < 8
    → get_or (wave_from phase tones) (8 * j + i) (pos 0) ≡ wave_sample (phase + phase_at tones j i)
wave_from-place [] phase j i within below = absurd (omega arith)
wave_from-place (tone ∷ tones) phase zero i within below =
    let at : 8 * 0 + i ≡ i = omega arith in
    ap (λ n. get_or (wave_from phase (tone ∷ tones)) n (pos 0)) at
    ∙ first_window phase tone (wave_from (next_phase phase tone) tones) i below
    ∙ ap wave_sample (omega arith)
wave_from-place (tone ∷ tones) phase (suc j) i within below =
    let at : (8 * suc j + i) - 8 ≡ 8 * j + i = omega arith in
    let sum = sum_by-cons phase_step tone (take j tones) in
    get_or-append_right (pure_window phase tone) (wave_from (next_phase phase tone) tones) 8 (8 * suc j + i) (pos 0)
    (length-pure_window phase tone) (omega arith)
    ∙ ap (λ n. get_or (wave_from (next_phase phase tone) tones) n (pos 0)) at
    ∙ wave_from-place tones (next_phase phase tone) j i (omega arith) below
    ∙ wave_sample-mod (next_phase phase tone + phase_at tones j i) (phase + phase_at (tone ∷ tones) (suc j) i)
    (omega arith)

pub wave_place : (tones : List Tone) (j i : ℕ) → j < length tones → i < 8
    → get_or (wave tones) (8 * j + i) (pos 0) ≡ wave_sample (phase_at tones j i)
wave_place tones j i within below = wave_from-place tones 0 j i within below ∙ ap wave_sample (omega arith)

-- ---- how long a signal is

pub length-samples_of : (t : Transmission) → length (samples_of t) ≡ sample_count t
unfolding transmission
length-samples_of t =
    omega (
      arith,
      length-append (replicate t.silence (pos 0)) (wave (line (body_of t))),
      length-replicate t.silence (pos 0),
      length-wave_from 0 (line (body_of t)),
      length-line_from Mark (body_of t),
    )

-- one transmission more
pub signal-push : (transmissions : List Transmission) (t : Transmission)
    → signal (transmissions ++ t ∷ []) ≡ signal transmissions ++ samples_of t
unfolding signal
signal-push transmissions t =
    flat_map-append samples_of transmissions (t ∷ [])
    ∙ ap (λ xs. signal transmissions ++ xs) (append-nil (samples_of t))
