-- No sample that is sent is louder than its level.
use Rattle.fx25_sender.proofs.Common.{ℕ, ◌+◌, ◌*◌, ◌≤◌, List, [], ◌∷◌, replicate, sym, subst, arith, All, Transmission}
use Rattle.fx25_sender.proofs.Common.{fx25_body, fx25_samples_of, fx25_signal, fx25_transmission}
use Rattle.std.proofs.Common.{ℤ, pos, unsigned_abs, get_or}
use Rattle.std.specs.List.{range_with_len}
use Rattle.std.proofs.lemmas.List.Elements.{All-append, All-map, All-nil, All-replicate}
use Rattle.std.proofs.lemmas.List.Concat.{flat_map-cons}
use Rattle.tone_table.specs.declared.tone.Tone.{Tone}
use Rattle.tone_table.specs.Sine.{wave_sample}
use Rattle.tone_table.specs.Tones.{next_phase, phase_step}
use Rattle.tone_table.specs.Wave.{pure_window, wave_from}
use Rattle.tone_table.proofs.SineLemmas.{unsigned_abs-wave_sample}
use Rattle.nrzi_bits.specs.Line.{line}
use Rattle.afsk_modulator.specs.Level.{at_level, sample_at}
use Rattle.afsk_modulator.proofs.LevelLemmas.{unsigned_abs-sample_at}

abbrev IsWithin : ℕ → ℤ → Type 0
IsWithin level sample = unsigned_abs sample ≤ level

within-pure_window : (phase : ℕ) (tone : Tone) → All (IsWithin 10000) (pure_window phase tone)
unfolding pure_window
within-pure_window phase tone =
    All-map (IsWithin 10000) (λ i. wave_sample (phase + i * phase_step tone)) (range_with_len 0 8)
    (λ k d below. unsigned_abs-wave_sample (phase + get_or (range_with_len 0 8) k d * phase_step tone))

within-wave_from : (phase : ℕ) (tones : List Tone) → All (IsWithin 10000) (wave_from phase tones)
within-wave_from phase [] = All-nil (IsWithin 10000)
within-wave_from phase (tone ∷ tones) =
    All-append (IsWithin 10000) (pure_window phase tone) (wave_from (next_phase phase tone) tones)
    (within-pure_window phase tone) (within-wave_from (next_phase phase tone) tones)

within-fx25_transmission : (checks level : ℕ) (frames : List (List ℕ)) (opening closing : ℕ)
    → All (IsWithin level) (fx25_transmission checks level frames opening closing)
unfolding fx25_transmission at_level
within-fx25_transmission checks level frames opening closing =
    let tones : List Tone = line (fx25_body checks frames opening closing) in
    All-map (IsWithin level) (sample_at level) (wave_from 0 tones)
    (λ k d below. unsigned_abs-sample_at level (get_or (wave_from 0 tones) k d) (within-wave_from 0 tones k d below))

within-fx25_samples_of : (checks level : ℕ) (t : Transmission) → All (IsWithin level) (fx25_samples_of checks level t)
within-fx25_samples_of checks level t =
    All-append (IsWithin level) (replicate t.silence (pos 0))
    (fx25_transmission checks level t.frames t.opening t.closing)
    (All-replicate (IsWithin level) t.silence (pos 0) (omega arith))
    (within-fx25_transmission checks level t.frames t.opening t.closing)

pub within-fx25_signal : (checks level : ℕ) (sent : List Transmission)
    → All (λ sample. unsigned_abs sample ≤ level) (fx25_signal checks level sent)
unfolding fx25_signal
within-fx25_signal checks level [] = All-nil (IsWithin level)
within-fx25_signal checks level (t ∷ sent) =
    subst (All (IsWithin level)) (sym (flat_map-cons (fx25_samples_of checks level) t sent))
    (All-append (IsWithin level) (fx25_samples_of checks level t) (fx25_signal checks level sent)
    (within-fx25_samples_of checks level t)
    (within-fx25_signal checks level sent))
