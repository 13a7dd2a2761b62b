-- What is written of the samples of a signal is read as these samples, as raw PCM and as a WAV file.
use Rattle.tnc_main.proofs.Common.{◌≡◌, ℕ, ◌+◌, ◌≤◌, ℤ, List, [], ◌∷◌, ◌++◌, length, get_or, length-append, All, Ok}
use Rattle.tnc_main.proofs.Common.{Some, refl, ap, ◌∙◌, arith, flat_map-cons, All-append, All-map, All-nil, All-same}
use Rattle.tnc_main.proofs.Common.{Transmission, Rates}
use Rattle.std.proofs.Common.{◌*◌, pos, replicate, of_z}
use Rattle.std.specs.Prelude.{unsigned_abs}
use Rattle.std.specs.Int.{cast_signed, from_le_bytes, to_le_bytes}
use Rattle.std.specs.List.{AllByRecursion, range_with_len}
use Rattle.std.proofs.Math.Facts.{Fits-of_z}
use Rattle.std.proofs.lemmas.Int.{fits_signed_from_abs, to_z-of_z}
use Rattle.std.proofs.lemmas.List.Elements.{All-replicate, recursion_from_All}
use Rattle.std.proofs.lemmas.Nat.{from_le_bytes-to_le_bytes_2}
use mir.Syntax.{w16}
use mir.Val.{SFits}
use Rattle.tone_table.specs.declared.tone.Tone.{Tone}
use Rattle.tone_table.specs.Sine.{wave_sample}
use Rattle.tone_table.specs.Tones.{phase_step, next_phase}
use Rattle.tone_table.specs.Wave.{pure_window, wave_from}
use Rattle.tone_table.proofs.SineLemmas.{unsigned_abs-wave_sample}
use Rattle.nrzi_bits.specs.Line.{line}
use Rattle.hdlc_framer.specs.Body.{body}
use Rattle.afsk_modulator.specs.Transmission.{transmission}
use Rattle.afsk_modulator.specs.Level.{at_level, sample_at}
use Rattle.fx25_sender.specs.Signal.{fx25_signal}
use Rattle.fx25_sender.proofs.LoudnessLemmas.{within-fx25_signal}
use Rattle.hf_modem.specs.Signal.{hf_signal}
use Rattle.hf_modem.proofs.LoudnessLemmas.{within-hf_signal}
use Rattle.afsk_modulator.specs.Signal.{samples_of as samples_at, signal, signal_at}
use Rattle.afsk_modulator.proofs.LevelLemmas.{unsigned_abs-sample_at}
use Rattle.wav_file.specs.Head.{head_of}
use Rattle.wav_file.specs.Reading.{Reading, rate_in, samples_in, verdict_of}
use Rattle.wav_file.specs.Samples.{sample_of, samples}
use Rattle.wav_file.proofs.HeadLemmas.{head_reads, head_whole}
use Rattle.tnc_forms.specs.Pcm.{pcm, sample_octets}

-- ---- raw PCM

abbrev pub IsSample : ℤ → Type 0
IsSample z = SFits w16 z

pair_read : (n : ℕ) (more : List ℕ) → samples (to_le_bytes w16 n ++ more)
    ≡ cast_signed w16 (from_le_bytes w16 (to_le_bytes w16 n)) ∷ samples more
unfolding sample_of
pair_read n more = refl

sample_read : (z : ℤ) (more : List ℕ) → IsSample z → samples (sample_octets z ++ more) ≡ z ∷ samples more
sample_read z more fits =
    pair_read (of_z w16 z) more
    ∙ ap (λ n. cast_signed w16 n ∷ samples more) (from_le_bytes-to_le_bytes_2 (of_z w16 z) (Fits-of_z fits).fits)
    ∙ ap (λ y. y ∷ samples more) (to_z-of_z w16 z fits)

pcm-cons : (z : ℤ) (xs : List ℤ) → pcm (z ∷ xs) ≡ sample_octets z ++ pcm xs
unfolding pcm
pcm-cons z xs = flat_map-cons sample_octets z xs

pcm-nil : pcm [] ≡ []
unfolding pcm
pcm-nil = refl

pcm_read : (xs : List ℤ) → AllByRecursion IsSample xs → samples (pcm xs) ≡ xs
pcm_read [] fit = ap samples pcm-nil
pcm_read (z ∷ xs) fit = ap samples (pcm-cons z xs) ∙ sample_read z (pcm xs) fit.0
    ∙ ap (λ ys. z ∷ ys) (pcm_read xs fit.1)

-- samples that fit 16 bits are read as they were written
pub samples-pcm : (xs : List ℤ) → All IsSample xs → samples (pcm xs) ≡ xs
samples-pcm xs fit = pcm_read xs (recursion_from_All IsSample xs fit)

pub length-pcm : (xs : List ℤ) → length (pcm xs) ≡ 2 * length xs
length-pcm [] = ap length pcm-nil
length-pcm (z ∷ xs) =
    let two : length (sample_octets z) ≡ 2 = refl in
    let more : length (pcm xs) ≡ 2 * length xs = length-pcm xs in
    ap length (pcm-cons z xs) ∙ length-append (sample_octets z) (pcm xs) ∙ omega (arith, two, more)

-- ---- a WAV file

module _ (xs : List ℤ) (few : length xs ≤ 2147483629) where
  pub samples-wav : (rates : Rates) → All IsSample xs → samples_in rates (head_of (length xs) ++ pcm xs) ≡ xs
  samples-wav rates fit =
      let count : length (pcm xs) ≡ 2 * length xs = length-pcm xs in
      ap (λ (r : Reading). r.heard) (head_reads rates (2 * length xs) (pcm xs) (omega (arith, few))
      (omega (arith, count))) ∙ samples-pcm xs fit

  -- at 9600 samples a second
  pub rate-wav : (rates : Rates) → rate_in rates (head_of (length xs) ++ pcm xs) ≡ Some 9600
  rate-wav rates =
      let count : length (pcm xs) ≡ 2 * length xs = length-pcm xs in
      ap (λ (r : Reading). r.rate) (head_reads rates (2 * length xs) (pcm xs) (omega (arith, few))
      (omega (arith, count)))

  pub wav_whole : (rates : Rates) → verdict_of rates (head_of (length xs) ++ pcm xs) ≡ Ok tt
  wav_whole rates = head_whole rates (2 * length xs) (pcm xs) (omega (arith, few)) (length-pcm xs)

-- ---- the samples of a signal fit

-- no louder than the wave of the definitions
abbrev IsQuiet : ℤ → Type 0
IsQuiet z = unsigned_abs z ≤ 10000

window_quiet : (phase : ℕ) (tone : Tone) → All IsQuiet (pure_window phase tone)
unfolding pure_window
window_quiet phase tone =
    All-map IsQuiet (λ i. wave_sample (phase + i * phase_step tone)) (range_with_len 0 8)
    (λ k d below. unsigned_abs-wave_sample _)

wave_quiet : (tones : List Tone) (phase : ℕ) → All IsQuiet (wave_from phase tones)
wave_quiet [] phase = All-nil IsQuiet
wave_quiet (tone ∷ tones) phase =
    All-append IsQuiet (pure_window phase tone) (wave_from (next_phase phase tone) tones) (window_quiet phase tone)
    (wave_quiet tones (next_phase phase tone))

transmission_quiet : (t : Transmission) → All IsQuiet (samples_at t)
unfolding transmission
transmission_quiet t =
    All-append IsQuiet (replicate t.silence (pos 0)) (transmission t.frames t.opening t.closing)
    (All-replicate IsQuiet t.silence (pos 0) (omega arith)) (wave_quiet (line (body t.frames t.opening t.closing)) 0)

signal_quiet : (sent : List Transmission) → All IsQuiet (signal sent)
unfolding signal
signal_quiet [] = All-nil IsQuiet
signal_quiet (t ∷ sent) =
    All-same IsQuiet (signal (t ∷ sent)) (samples_at t ++ signal sent) (flat_map-cons samples_at t sent)
    (All-append IsQuiet (samples_at t) (signal sent) (transmission_quiet t) (signal_quiet sent))

pub signal_fits : (level : ℕ) (sent : List Transmission) → level ≤ 32767 → All IsSample (signal_at level sent)
unfolding signal_at at_level
signal_fits level sent most = All-map IsSample (sample_at level) (signal sent) (λ k d below.
    let quiet = unsigned_abs-sample_at level (get_or (signal sent) k d) (signal_quiet sent k d below) in
    fits_signed_from_abs w16 (sample_at level (get_or (signal sent) k d)) (omega arith))

pub fx25_signal_fits : (checks level : ℕ) (sent : List Transmission) → level ≤ 32767
    → All IsSample (fx25_signal checks level sent)
fx25_signal_fits checks level sent most k d below =
    let quiet = within-fx25_signal checks level sent k d below in
    fits_signed_from_abs w16 (get_or (fx25_signal checks level sent) k d) (omega arith)

pub hf_signal_fits : (level : ℕ) (sent : List Transmission) → level ≤ 32767 → All IsSample (hf_signal level sent)
hf_signal_fits level sent most k d below =
    let quiet = within-hf_signal level sent k d below in
    fits_signed_from_abs w16 (get_or (hf_signal level sent) k d) (omega arith)
