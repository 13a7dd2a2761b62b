-- What decode settles stays so.
use Rattle.tnc_decode.proofs.Common.{◌≡◌, ℕ, List, [], ◌++◌, length, refl, ap, sym, subst, ◌∙◌, arith}
use Rattle.tnc_decode.proofs.Common.{append_assoc, length-append, Some, None, InputFault, TooLong}
use Rattle.tnc_decode.proofs.Common.{DecodeWords, Receiver, rates_of, samples_read, stopping_fault, IsDecoded, HasHeard}
use Rattle.std.proofs.lemmas.List.{nil_from_length, take_all}
use Rattle.tnc_engine.specs.Making.{Adds, IsMaking, Takes}
use Rattle.tnc_engine.specs.declared.maker.Taken.TheVariants.{Front, Bad}
use Rattle.tnc_forms.specs.declared.fault.InputFault.TheVariants.{Wav as BadWav}
use Rattle.wav_file.specs.declared.fault.WavFault.{WavFault}
use Rattle.tnc_decode.specs.Making.{decode_making}
use Rattle.tnc_decode.proofs.AudioLemmas.{begins_with, form_is_wav, none_at_first, none_stops, stops_form, stops_silent}
use Rattle.tnc_decode.proofs.AudioLemmas.{stops_still}
use Rattle.tnc_decode.proofs.DecodedLemmas.{some_text}
use Rattle.tnc_decode.proofs.SettledLemmas.{settled_first, settled_none, settled_silent, silent_nothing, silent_text}

wav_not_long : (fault : InputFault) → (wav : WavFault) × (fault ≡ BadWav wav) → fault ≡ TooLong → ⊥
wav_not_long fault (wav, is) long = let both : BadWav wav ≡ TooLong = sym is ∙ long in cc both

module _ (words : DecodeWords) where
  -- octets that stop the reading have no sample, nor has what comes before them
  silent : (octets : List ℕ) (fault : InputFault) → stopping_fault words octets ≡ Some fault
      → samples_read words octets ≡ []
  silent octets fault = stops_silent (rates_of words.receiving) words.audio octets fault

  silent_first : (octets more : List ℕ) → samples_read words (octets ++ more) ≡ [] → samples_read words octets ≡ []
  silent_first octets more none =
      let y = begins_with (rates_of words.receiving) words.audio octets more in
      nil_from_length (samples_read words octets)
      (let size = ap length y.1 ∙ length-append (samples_read words octets) y.0 in
      let empty = ap length none in omega (arith, size, empty))

  pub decodes : IsMaking (decode_making words)
  decodes = record {
    none = settled_none words;
    good = none_at_first (rates_of words.receiving) words.audio;
    first = λ octets more text part rest good settled parts.
        let whole = some_text words (octets ++ more) in
        let y = begins_with (rates_of words.receiving) words.audio octets more in
        let first = settled_first words octets (octets ++ more) more text whole.0 y.0 refl y.1 settled whole.1 in (
          whole.0,
          rest ++ first.0,
          whole.1,
          first.1 ∙ ap (λ t. t ++ first.0) parts ∙ append_assoc part rest first.0,
        );
    last = λ octets text part rest made parts. (text, rest, made, parts);
    bad = λ octets more fault is.
        let still = stops_still (rates_of words.receiving) words.audio octets more fault is in
        (still, stops_form (rates_of words.receiving) words.audio (octets ++ more) fault still);
    still = λ octets more text fault is settled.
        let none = silent (octets ++ more) fault
        (stops_still (rates_of words.receiving) words.audio octets more fault is) in
        let empty = silent_nothing words octets text (silent octets fault is) settled in (
          settled_silent words (octets ++ more) text none empty,
          subst (IsDecoded words (octets ++ more)) (sym empty) (silent_text words (octets ++ more) none),
        );
    not_long = λ octets fault is. wav_not_long fault (form_is_wav (rates_of words.receiving) words.audio octets fault
        (stops_form (rates_of words.receiving) words.audio octets fault is));
    not_long_whole = λ octets fault is. wav_not_long fault
        (form_is_wav (rates_of words.receiving) words.audio octets fault is);
  }

  -- ---- a piece

  -- beside the octets that were taken a fact holds throughout
  pub hears_all : (Sure : Type 0) → Sure → (now : Receiver) (before octets text : List ℕ)
      → HasHeard now words (before ++ octets) × Adds (decode_making words) before octets text
      → Takes (decode_making words) (λ o. HasHeard now words o × Sure) before octets text (Front (length octets))
  hears_all Sure sure now before octets text (heard, adds) =
      subst (λ o. (HasHeard now words (before ++ o) × Sure) × (stopping_fault words (before ++ o) ≡ None)
      × Adds (decode_making words) before o text) (sym (take_all (length octets) octets (omega arith))) (
        (heard, sure),
        none_stops (rates_of words.receiving) words.audio now.audio (before ++ octets) heard.audio,
        adds,
      )

  pub hears_bad : (now : Receiver) (before octets text : List ℕ) (fault : InputFault)
      → stopping_fault words (before ++ octets) ≡ Some fault → text ≡ []
      → Takes (decode_making words) (HasHeard now words) before octets text (Bad fault)
  hears_bad now before octets text fault stops empty = (
    stops,
    λ first settled.
        let none = silent (before ++ octets) fault stops in
        let nothing = silent_nothing words before first (silent_first before octets none) settled in
        settled_silent words (before ++ octets) (first ++ text) none (ap (λ t. t ++ text) nothing ∙ empty),
  )
