-- What encode writes is heard by decode.
use Rattle.tnc_main.proofs.Common.{◌≡◌, ℕ, ◌≤◌, Bool, true, false, true≢false, ℤ, List, All, length, map, take}
use Rattle.tnc_main.proofs.Common.{nat_lt, Option, Some, None, refl, sym, subst, ap, ◌∙◌, is_some, if◌then◌else◌}
use Rattle.tnc_main.proofs.Common.{Transmission, IsTransmission, Candidate, DecodeWords, EncodeWords, Rates}
use Rattle.tnc_main.proofs.Common.{InputFault, LongWav, TooLong, input_limit, audio_fault, samples_read, Modem, Plain}
use Rattle.tnc_main.proofs.Common.{modem_of, remaining, AreHeard, IsDecoded, print, frames_of_input, encoded, fault_of_whole}
use Rattle.tnc_main.proofs.Common.{first_of, keeps_frames, length_fault, samples_sent, transmissions, fault_kept}
use Rattle.std.proofs.Common.{le-ltb}
use Rattle.std.specs.Option.{option_or}
use Rattle.std.proofs.lemmas.Bool.{ltb-false}
use Rattle.afsk_modulator.specs.Modulation.{IsLevel}
use Rattle.clean_signal.specs.GoodTransmission.{frames_of as all_frames}
use Rattle.clean_signal.proofs.Law.{level_law}
use Rattle.hf_signal.proofs.Law.{level_law as hf_level_law}
use Rattle.tnc_words.specs.Sending.{count_of}
use Rattle.tnc_words.specs.declared.command.AudioForm.{AudioForm}
use Rattle.tnc_words.specs.declared.command.AudioForm.TheVariants.{Raw, Wav}
use Rattle.tnc_words.specs.declared.command.Modem.{Modem as Sending}
use Rattle.tnc_words.specs.declared.command.Modem.TheVariants.{Bell202, ShortWave, Fx25}
use Rattle.wav_file.specs.declared.rates.Rates.TheVariants.{NarrowOrWide}
use Rattle.tnc_decode.specs.Audio.{fault_in_verdict, form_fault, form_fault_at, rates_of, samples_at, stopping_fault}
use Rattle.tnc_decode.specs.declared.modem.Modem.TheVariants.{ShortWave as HearsShortWave}
use Rattle.tnc_decode.specs.Modem.{modem_for, plain_at, rate_of_file}
use Rattle.tnc_encode.specs.Frames.{form_fault as frames_fault}
use Rattle.tnc_encode.specs.Encoded.{encode_fault, most_samples, signal_of, written_as}
use Rattle.tnc_encode.specs.Sending.{signal_by}
use Rattle.tnc_main.specs.RoundTrip.{receiving_of, IsWithoutStray}
use Rattle.tnc_main.proofs.PcmRoundTrip.{IsSample, rate-wav, samples-pcm, samples-wav, signal_fits, fx25_signal_fits}
use Rattle.tnc_main.proofs.PcmRoundTrip.{hf_signal_fits}
use Rattle.tnc_main.proofs.PcmRoundTrip.{wav_whole}
use Rattle.tnc_main.proofs.SentFrames.{AreOctets, frames_of_input-fit, frames_sent, transmissions_good}
use Rattle.tnc_main.proofs.TextLemmas.{merged_text}

some_is_not_none : (fault : InputFault) → Some fault ≡ None → ⊥
some_is_not_none fault e = true≢false (ap is_some e)

-- ---- an input that encode takes is not too long for its form

last_is_none : (long : Bool) (form size : Option InputFault)
    → (if long then Some TooLong else first_of form size) ≡ None → size ≡ None
last_is_none true form size e = absurd (some_is_not_none TooLong e)
last_is_none false (Some fault) size e = absurd (some_is_not_none fault e)
last_is_none false None size e = e

few_samples : (form : AudioForm) (count : ℕ) → length_fault form count ≡ None → form ≡ Wav → count ≤ most_samples
few_samples Raw count none wav = cc wav
few_samples Wav count none wav = by_count (nat_lt most_samples count) refl none
  where
    by_count : (b : Bool) → nat_lt most_samples count ≡ b → (if b then Some (LongWav count) else None) ≡ None
        → count ≤ most_samples
    by_count true is e = absurd (some_is_not_none (LongWav count) e)
    by_count false is e = ltb-false most_samples count is

wav_fits : (words : EncodeWords) (octets : List ℕ) → encode_fault words octets ≡ None → words.audio ≡ Wav
    → length (samples_sent words octets) ≤ most_samples
unfolding fault_of_whole
wav_fits words octets none wav =
    let count : ℕ = length (samples_sent words octets) in
    let kept : keeps_frames words.audio words.join ≡ true = ap (λ form. keeps_frames form words.join) wav in
    few_samples words.audio count (last_is_none (nat_lt input_limit (length octets)) (frames_fault words.frames octets)
    (length_fault words.audio count) (sym (fault_kept words kept octets) ∙ none)) wav

-- ---- samples

written_read : (rates : Rates) (form : AudioForm) (x : List ℤ) → All IsSample x → (form ≡ Wav → length x ≤ most_samples)
    → samples_at rates form (written_as form x) ≡ x
written_read rates Raw x fit few = samples-pcm x fit
written_read rates Wav x fit few = samples-wav x (few refl) rates fit

-- the modem that hears what another sends
abbrev hearing : Sending → Modem
hearing Bell202 = Plain
hearing ShortWave = HearsShortWave
hearing (Fx25 checks) = Plain

written_heard : (modem : Sending) (form : AudioForm) (x : List ℤ) → (form ≡ Wav → length x ≤ most_samples)
    → modem_for (receiving_of modem) form (written_as form x) ≡ hearing modem
written_heard Bell202 Raw x few = refl
written_heard Bell202 Wav x few = ap (λ told. plain_at (rate_of_file told)) (rate-wav x (few refl) NarrowOrWide)
written_heard ShortWave form x few = refl
written_heard (Fx25 checks) Raw x few = refl
written_heard (Fx25 checks) Wav x few = ap (λ told. plain_at (rate_of_file told)) (rate-wav x (few refl) NarrowOrWide)

-- every sample that is sent fits
sent_fits : (modem : Sending) (level : ℕ) (sent : List Transmission) → level ≤ 32767
    → All IsSample (signal_by modem level sent)
unfolding signal_by
sent_fits Bell202 level sent most = signal_fits level sent most
sent_fits ShortWave level sent most = hf_signal_fits level sent most
sent_fits (Fx25 checks) level sent most = fx25_signal_fits (count_of checks) level sent most

-- what is sent without a stray gives its frames
sent_merges : (modem : Sending) (level : ℕ) (sent : List Transmission) (items : List Candidate) → IsLevel level
    → All IsTransmission sent
    → IsWithoutStray modem sent (signal_by modem level sent)
    → AreHeard (hearing modem) (signal_by modem level sent) items
    → map (λ item. item.octets) (remaining (hearing modem) items) ≡ all_frames sent
unfolding signal_by
sent_merges Bell202 level sent items fits good no_stray are = level_law level sent fits good no_stray items are
sent_merges ShortWave level sent items fits good no_stray are = hf_level_law level sent fits good no_stray items are
sent_merges (Fx25 checks) level sent items fits good no_stray are = absurd no_stray

written_good : (rates : Rates) (form : AudioForm) (x : List ℤ) → (form ≡ Wav → length x ≤ most_samples)
    → form_fault_at rates form (written_as form x) ≡ None
written_good rates Raw x few = refl
written_good rates Wav x few = ap fault_in_verdict (wav_whole x (few refl) rates)

module _ (encode : EncodeWords) (decode : DecodeWords) (octets : List ℕ) (none : encode_fault encode octets ≡ None)
    (same : decode.audio ≡ encode.audio) where
  abbrev frames : List (List ℕ)
  frames = frames_of_input encode.frames octets

  -- decode takes what encode wrote
  pub taken : length (encoded encode octets) ≤ input_limit → audio_fault decode (encoded encode octets) ≡ None
  unfolding encoded
  taken short =
      ap (λ b. if b then option_or (stopping_fault decode (take input_limit (encoded encode octets)))
      (Some TooLong) else form_fault decode (encoded encode octets))
      (le-ltb input_limit (length (encoded encode octets)) short)
      ∙ ap (λ form. form_fault_at (rates_of decode.receiving) form (encoded encode octets)) same
      ∙ written_good (rates_of decode.receiving) encode.audio (signal_of encode frames)
      (wav_fits encode octets none)

  same_samples : IsLevel encode.level → samples_read decode (encoded encode octets) ≡ signal_of encode frames
  unfolding encoded
  same_samples level =
      ap (λ form. samples_at (rates_of decode.receiving) form (encoded encode octets)) same
      ∙ written_read (rates_of decode.receiving) encode.audio (signal_of encode frames)
      (sent_fits encode.modem encode.level (transmissions encode frames) level.most) (wav_fits encode octets none)

  hears : decode.receiving ≡ receiving_of encode.modem → modem_of decode (encoded encode octets) ≡ hearing encode.modem
  unfolding encoded
  hears alike =
      ap (λ receiving. modem_for receiving decode.audio (encoded encode octets)) alike
      ∙ ap (λ form. modem_for (receiving_of encode.modem) form (encoded encode octets)) same
      ∙ written_heard encode.modem encode.audio (signal_of encode frames) (wav_fits encode octets none)

  -- and prints its frames
  pub heard : decode.receiving ≡ receiving_of encode.modem → AreOctets octets → 2 ≤ encode.opening → 1 ≤ encode.closing
      → IsLevel encode.level
      → IsWithoutStray encode.modem (transmissions encode frames) (signal_of encode frames)
      → (text : List ℕ) → IsDecoded decode (encoded encode octets) text → text ≡ print decode.frames frames
  heard alike each opening closing level no_stray text is =
      let good = transmissions_good encode opening closing frames (frames_of_input-fit encode.frames octets each) in
      merged_text decode (all_frames (transmissions encode frames)) (encoded encode octets) text
      (λ items are. ap (λ modem. map (λ item. item.octets) (remaining modem items)) (hears alike)
      ∙ sent_merges encode.modem encode.level (transmissions encode frames) items level good no_stray
      (subst (λ x. AreHeard (hearing encode.modem) x items) (same_samples level)
      (subst (λ modem. AreHeard modem (samples_read decode (encoded encode octets)) items) (hears alike) are))) is
      ∙ ap (print decode.frames) (frames_sent encode frames)
