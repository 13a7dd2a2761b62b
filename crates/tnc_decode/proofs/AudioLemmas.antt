-- Audio, one octet more at a time.
use Rattle.tnc_decode.proofs.Common.{◌≡◌, ℕ, ◌+◌, ◌<◌, ◌≤◌, ℤ, List, [], ◌∷◌, ◌++◌, length, take, drop, get_or, refl}
use Rattle.tnc_decode.proofs.Common.{ap, sym, subst, ◌∙◌, arith, append_assoc, length-append, inl, inr, append-nil, Option, Some, None}
use Rattle.tnc_decode.proofs.Common.{Result, Ok, ◌⊎◌, WavFault, Rates, chunks, Reading, reading, samples_in, fault_in}
use Rattle.tnc_decode.proofs.Common.{rate_in, sample_of, InputFault, AudioForm, Raw, Wav, DecodeWords, File, rates_of}
use Rattle.tnc_decode.proofs.Common.{samples_at, samples_read, stopping_fault_at, form_fault_at, modem_of, HasTakenAt}
use Rattle.std.proofs.Math.Seq.{take-add}
use Rattle.std.proofs.Common.{zero, suc, ◌*◌, ◌-◌, length-drop}
use Rattle.std.proofs.lemmas.List.{drop-drop, drop_all, get_or-drop, length-take-le, take_more, take-append-drop}
use Rattle.std.specs.Prelude.{Err, option_map}
use Rattle.std.specs.Result.{result_err}
use Rattle.wav_file.specs.declared.rates.Rates.TheVariants.{NarrowOrWide}
use Rattle.wav_file.specs.Held.{Held as HeldFile, StandsFor as FileStandsFor, rest_reading}
use Rattle.wav_file.specs.Reading.{given, verdict_of}
use Rattle.wav_file.specs.Samples.{samples}
use Rattle.tnc_forms.specs.declared.fault.InputFault.TheVariants.{Wav as BadWav}
use Rattle.tnc_words.specs.declared.command.Receiving.{Receiving}
use Rattle.tnc_words.specs.declared.command.Receiving.TheVariants.{Standard, Sensitive, ShortWave}
use Rattle.tnc_words.specs.declared.command.Receiving.TheVariants.{SensitiveShortWave, Fx25, SensitiveFx25}
use Rattle.tnc_decode.specs.declared.audio.Audio.{Audio}
use Rattle.tnc_decode.specs.declared.audio.Audio.TheVariants.{Pcm}
use Rattle.tnc_decode.specs.Audio.{fault_in_verdict}
use Rattle.tnc_words.specs.declared.command.SampleRate.{SampleRate}
use Rattle.tnc_decode.specs.Modem.{modem_for, plain_at, sensitive_at, rate_for, rate_of_file}
use Rattle.tnc_decode.specs.Held.{odd_octet}
use Rattle.tnc_decode.proofs.WavFaults.{fault_stays, rate_stays, silent_before, quiet_before}
use Rattle.tnc_decode.proofs.WavReaders.{read_on, reader_of}

-- ---- raw PCM

-- octets that begin with a sample
even_more : (before octets : List ℕ) → None ≡ odd_octet before
    → (samples (before ++ octets) ≡ samples before ++ samples octets)
    × (odd_octet octets ≡ odd_octet (before ++ octets))
even_more [] octets e = (refl, refl)
even_more (low ∷ []) octets e = absurd cc
even_more (low ∷ high ∷ rest) octets e = let more = even_more rest octets e in
    (ap (λ t. sample_of low high ∷ t) more.0, more.1)

-- octets whose first ends a sample that has begun
odd_more : (before octets : List ℕ) (low high : ℕ) → Some low ≡ odd_octet before
    → (samples (before ++ high ∷ octets) ≡ samples before ++ sample_of low high ∷ samples octets)
    × (odd_octet octets ≡ odd_octet (before ++ high ∷ octets))
odd_more [] octets low high e = absurd cc
odd_more (first ∷ []) octets low high e = let same : first ≡ low = cc in
    (ap (λ t. sample_of t high ∷ samples octets) same, refl)
odd_more (first ∷ second ∷ rest) octets low high e = let more = odd_more rest octets low high e in
    (ap (λ t. sample_of first second ∷ t) more.0, more.1)

-- what raw PCM has taken, and what it gave
abbrev pub TakesPcm : Option ℕ → Option ℕ → List ℕ → List ℤ → Type 0
TakesPcm low now octets found = (before : List ℕ) → low ≡ odd_octet before
    → (now ≡ odd_octet (before ++ octets)) × (samples (before ++ octets) ≡ samples before ++ found)

-- as the code has it: with the samples that were found before and those that it appends
pub even_given : (octets : List ℕ) (low now : Option ℕ) (was found : List ℤ) → low ≡ None → now ≡ odd_octet octets
    → found ≡ was ++ samples octets → was ≡ [] → TakesPcm low now octets found
even_given octets low now was found none odd is empty before e =
    let more = even_more before octets (sym none ∙ e) in (
      odd ∙ more.1,
      more.0 ∙ ap (λ t. samples before ++ t) (sym (is ∙ ap (λ t. t ++ samples octets) empty)),
    )

pub odd_given : (octets rest : List ℕ) (low : Option ℕ) (first : ℕ) (now : Option ℕ) (was one found : List ℤ)
    → 1 ≤ length octets → rest ≡ drop 1 octets
    → low ≡ Some first → now ≡ odd_octet rest → found ≡ one ++ samples rest
    → one ≡ was ++ sample_of first (get_or octets 0 0) ∷ [] → was ≡ []
    → TakesPcm low now octets found
odd_given [] rest low first now was one found some is waits odd all appended empty before e = absurd (omega arith)
odd_given (high ∷ octets) rest low first now was one found some is waits odd all appended empty before e =
    let more = odd_more before octets first high (sym waits ∙ e) in
    let begin : one ≡ sample_of first high ∷ [] = appended ∙ ap (λ t. t ++ sample_of first high ∷ []) empty in (
      odd ∙ ap odd_octet is ∙ more.1,
      more.0 ∙ ap (λ t. samples before ++ t) (sym (all ∙ ap (λ t. one ++ samples t) is
          ∙ ap (λ t. t ++ samples octets) begin)),
    )

-- octets by twos: the samples so far and those of the rest are all, and the odd octet is that of the rest
pub record PairsOn (octets rest : List ℕ) (was found : List ℤ) : Type 0 where
  pub samples : found ++ samples rest ≡ was ++ samples octets
  pub odd : odd_octet rest ≡ odd_octet octets
  pub few : length found + length rest ≤ length was + length octets

-- samples of octets that are a whole number of them
even_append : (n : ℕ) (xs ys : List ℕ) → length xs ≡ 2 * n → samples (xs ++ ys) ≡ samples xs ++ samples ys
even_append zero [] ys even = refl
even_append zero (a ∷ xs) ys even = absurd (omega arith)
even_append (suc n) [] ys even = absurd (omega arith)
even_append (suc n) (a ∷ []) ys even = absurd (omega arith)
even_append (suc n) (a ∷ b ∷ xs) ys even = ap (λ t. sample_of a b ∷ t) (even_append n xs ys (omega arith))

odd_append : (n : ℕ) (xs ys : List ℕ) → length xs ≡ 2 * n → odd_octet (xs ++ ys) ≡ odd_octet ys
odd_append zero [] ys even = refl
odd_append zero (a ∷ xs) ys even = absurd (omega arith)
odd_append (suc n) [] ys even = absurd (omega arith)
odd_append (suc n) (a ∷ []) ys even = absurd (omega arith)
odd_append (suc n) (a ∷ b ∷ xs) ys even = odd_append n xs ys (omega arith)

-- eight samples more
pub pairs_on_eight : (octets rest front later : List ℕ) (was found more : List ℤ) → PairsOn octets rest was found
    → 16 ≤ length rest → front ≡ take 16 rest → later ≡ drop 16 rest → more ≡ found ++ samples front
    → length more ≡ length found + 8 → PairsOn octets later was more
pairs_on_eight octets rest front later was found more h enough front_is later_is more_is eight =
    let whole : front ++ later ≡ rest = (λ i. front_is i ++ later_is i) ∙ take-append-drop 16 rest in
    let size : length front ≡ 2 * 8 = ap length front_is ∙ length-take-le 16 rest enough in
    let left : length later ≡ length rest - 16 = ap length later_is ∙ length-drop 16 rest in
    let few = h.few in
    record {
      samples = ap (λ t. t ++ samples later) more_is ∙ append_assoc found (samples front) (samples later)
          ∙ ap (λ t. found ++ t) (sym (even_append 8 front later size) ∙ ap samples whole) ∙ h.samples;
      odd = sym (odd_append 8 front later size) ∙ ap odd_octet whole ∙ h.odd;
      few = omega arith;
    }

two_samples : (xs : List ℕ) → 2 ≤ length xs → samples xs ≡ sample_of (get_or xs 0 0) (get_or xs 1 0) ∷ samples (drop 2 xs)
two_samples (a ∷ b ∷ xs) enough = refl
two_samples [] enough = absurd (omega arith)
two_samples (a ∷ []) enough = absurd (omega arith)

from_place : (xs : List ℕ) (n : ℕ) → n + 2 ≤ length xs
    → samples (drop n xs) ≡ sample_of (get_or xs n 0) (get_or xs (n + 1) 0) ∷ samples (drop (n + 2) xs)
from_place xs n inside =
    let low : get_or (drop n xs) 0 0 ≡ get_or xs n 0 = get_or-drop n xs 0 0 ∙ ap (λ k. get_or xs k 0) (omega arith) in
    let high : get_or (drop n xs) 1 0 ≡ get_or xs (n + 1) 0 = get_or-drop n xs 1 0 in
    two_samples (drop n xs) (omega (arith, length-drop n xs))
    ∙ (λ i. sample_of (low i) (high i) ∷ samples (drop-drop 2 n xs i))

-- the samples of sixteen octets
pub sixteen_octets : (xs : List ℕ) → length xs ≡ 16
    → samples xs ≡ sample_of (get_or xs 0 0) (get_or xs 1 0) ∷ sample_of (get_or xs 2 0) (get_or xs 3 0)
    ∷ sample_of (get_or xs 4 0) (get_or xs 5 0) ∷ sample_of (get_or xs 6 0) (get_or xs 7 0)
    ∷ sample_of (get_or xs 8 0) (get_or xs 9 0) ∷ sample_of (get_or xs 10 0) (get_or xs 11 0)
    ∷ sample_of (get_or xs 12 0) (get_or xs 13 0) ∷ sample_of (get_or xs 14 0) (get_or xs 15 0) ∷ []
sixteen_octets xs size =
    let s : ℕ → ℤ = λ n. sample_of (get_or xs n 0) (get_or xs (n + 1) 0) in
    let none : drop 16 xs ≡ [] = drop_all 16 xs (omega arith) in
    from_place xs 0 (omega arith)
    ∙ ap (λ t. s 0 ∷ t) (from_place xs 2 (omega arith)
    ∙ ap (λ t. s 2 ∷ t) (from_place xs 4 (omega arith)
    ∙ ap (λ t. s 4 ∷ t) (from_place xs 6 (omega arith)
    ∙ ap (λ t. s 6 ∷ t) (from_place xs 8 (omega arith)
    ∙ ap (λ t. s 8 ∷ t) (from_place xs 10 (omega arith)
    ∙ ap (λ t. s 10 ∷ t) (from_place xs 12 (omega arith)
    ∙ ap (λ t. s 12 ∷ t) (from_place xs 14 (omega arith)
    ∙ ap (λ t. s 14 ∷ t) (ap samples none))))))))

-- ---- a WAV file

module _ (rates : Rates) (form : AudioForm) (before : List ℕ) (octet : ℕ) (file next : HeldFile)
    (result : Result (Option ℤ) WavFault)
    (stands : (octets : List ℕ) → FileStandsFor rates file octets → FileStandsFor rates next (octets ++ octet ∷ []))
    (gives : (octets : List ℕ) → FileStandsFor rates file octets
    → samples_in rates (octets ++ octet ∷ []) ≡ samples_in rates octets ++ given result)
    (shows : (octets : List ℕ) → FileStandsFor rates file octets
    → fault_in rates (octets ++ octet ∷ []) ≡ result_err result) where
  pub file_takes : (sample : Option ℤ) → result ≡ Ok sample → HasTakenAt rates form (File file) before
      → HasTakenAt rates form (File next) (before ++ octet ∷ [])
      × (samples_at rates form (before ++ octet ∷ []) ≡ samples_at rates form before ++ given (Ok sample))
  file_takes sample is h = by_form form h
    where
      by_form : (form : AudioForm) → HasTakenAt rates form (File file) before
          → HasTakenAt rates form (File next) (before ++ octet ∷ [])
          × (samples_at rates form (before ++ octet ∷ []) ≡ samples_at rates form before ++ given (Ok sample))
      by_form Raw h = absurd h
      by_form Wav h = (
        (stands before h.0, shows before h.0 ∙ ap result_err is),
        gives before h.0
            ∙ ap (λ r. samples_in rates before ++ given r) is,
      )

  pub file_stops : (fault : WavFault) → result ≡ Err fault → HasTakenAt rates form (File file) before
      → stopping_fault_at rates form (before ++ octet ∷ []) ≡ Some (BadWav fault)
  file_stops fault is h = by_form form h
    where
      by_form : (form : AudioForm) → HasTakenAt rates form (File file) before
          → stopping_fault_at rates form (before ++ octet ∷ []) ≡ Some (BadWav fault)
      by_form Raw h = absurd h
      by_form Wav h = ap (option_map BadWav) (shows before h.0 ∙ ap result_err is)

-- whole samples of the data at once
module _ (rates : Rates) (form : AudioForm) (before octets : List ℕ) (file next : HeldFile)
    (stands : (before : List ℕ) → FileStandsFor rates file before → FileStandsFor rates next (before ++ octets))
    (gives : (before : List ℕ) → FileStandsFor rates file before
    → samples_in rates (before ++ octets) ≡ samples_in rates before ++ samples octets)
    (shows : (before : List ℕ) → FileStandsFor rates file before
    → fault_in rates (before ++ octets) ≡ fault_in rates before) where
  pub data_takes : HasTakenAt rates form (File file) before
      → HasTakenAt rates form (File next) (before ++ octets)
      × (samples_at rates form (before ++ octets) ≡ samples_at rates form before ++ samples octets)
  data_takes h = by_form form h
    where
      by_form : (form : AudioForm) → HasTakenAt rates form (File file) before
          → HasTakenAt rates form (File next) (before ++ octets)
          × (samples_at rates form (before ++ octets) ≡ samples_at rates form before ++ samples octets)
      by_form Raw h = absurd h
      by_form Wav h = ((stands before h.0, shows before h.0 ∙ h.1), gives before h.0)

-- ---- faults

-- a fault at which reading stops stops it if more follows, too
pub stops_still : (rates : Rates) (form : AudioForm) (octets more : List ℕ) (fault : InputFault)
    → stopping_fault_at rates form octets ≡ Some fault → stopping_fault_at rates form (octets ++ more) ≡ Some fault
stops_still rates Raw octets more fault e = absurd cc
stops_still rates Wav octets more fault e = by_fault (fault_in rates octets) refl e
  where
    by_fault : (shown : Option WavFault) → fault_in rates octets ≡ shown → option_map BadWav shown ≡ Some fault
        → option_map BadWav (fault_in rates (octets ++ more)) ≡ Some fault
    by_fault None is k = absurd cc
    by_fault (Some wav) is k = ap (option_map BadWav) (fault_stays rates octets more wav is) ∙ k

-- if it shows there is no sample
pub stops_silent : (rates : Rates) (form : AudioForm) (octets : List ℕ) (fault : InputFault)
    → stopping_fault_at rates form octets ≡ Some fault → samples_at rates form octets ≡ []
stops_silent rates Raw octets fault e = absurd cc
stops_silent rates Wav octets fault e = by_fault (fault_in rates octets) refl e
  where
    by_fault : (shown : Option WavFault) → fault_in rates octets ≡ shown → option_map BadWav shown ≡ Some fault
        → samples_in rates octets ≡ []
    by_fault None is k = absurd cc
    by_fault (Some wav) is k = silent_before rates octets wav is

-- what was taken shows none
pub none_stops : (rates : Rates) (form : AudioForm) (audio : Audio) (octets : List ℕ)
    → HasTakenAt rates form audio octets → stopping_fault_at rates form octets ≡ None
none_stops rates Raw audio octets h = refl
none_stops rates Wav (Pcm low) octets h = absurd h
none_stops rates Wav (File file) octets h = ap (option_map BadWav) h.1

-- and it is what is wrong with the form
pub stops_form : (rates : Rates) (form : AudioForm) (octets : List ℕ) (fault : InputFault)
    → stopping_fault_at rates form octets ≡ Some fault → form_fault_at rates form octets ≡ Some fault
stops_form rates Raw octets fault e = absurd cc
stops_form rates Wav octets fault e = by_fault (fault_in rates octets) refl e
  where
    by_fault : (shown : Option WavFault) → fault_in rates octets ≡ shown → option_map BadWav shown ≡ Some fault
        → form_fault_at rates Wav octets ≡ Some fault
    by_fault None is k = absurd cc
    by_fault (Some wav) is k = rw is k

-- ---- samples of a first part

-- octets have no more samples than octets
samples_few : (octets : List ℕ) → length (samples octets) ≤ length octets
samples_few [] = omega arith
samples_few (low ∷ []) = omega arith
samples_few (low ∷ high ∷ octets) = let few = samples_few octets in omega (arith, few)

samples_begin : (octets more : List ℕ) → (rest : List ℤ) × (samples (octets ++ more) ≡ samples octets ++ rest)
    × (length rest ≤ length more)
samples_begin [] more = (samples more, refl, samples_few more)
samples_begin (low ∷ []) [] = ([], refl, omega arith)
samples_begin (low ∷ []) (high ∷ more) =
    (samples (low ∷ high ∷ more), refl, (let few = samples_few more in omega (arith, few)))
samples_begin (low ∷ high ∷ octets) more = let h = samples_begin octets more in
    (h.0, ap (λ t. sample_of low high ∷ t) h.1, h.2)

-- the samples of more octets begin with those of the first, and no more come than octets
pub begins_with : (rates : Rates) (form : AudioForm) (octets more : List ℕ)
    → (rest : List ℤ) × (samples_at rates form (octets ++ more) ≡ samples_at rates form octets ++ rest)
    × (length rest ≤ length more)
begins_with rates Raw octets more = samples_begin octets more
begins_with rates Wav octets more =
    let reader = reader_of rates octets in
    let rest : List ℤ = (rest_reading rates (length octets) reader.held.part reader.held.unit more).heard in
    let is : samples_in rates (octets ++ more) ≡ samples_in rates octets ++ rest =
    ap (λ (r : Reading). r.heard) (reader.stands.rest more) in
    let size = ap length is ∙ length-append (samples_in rates octets) rest in
    let few = (read_on rates octets more reader).1 in
    (rest, is, omega (arith, size, few))

-- no fault shows before an octet has come
pub none_at_first : (rates : Rates) (form : AudioForm) → stopping_fault_at rates form [] ≡ None
unfolding reading chunks
none_at_first rates Raw = refl
none_at_first rates Wav = refl

-- of a new file nothing has come
pub new_file : (rates : Rates) (file : HeldFile) → FileStandsFor rates file [] → HasTakenAt rates Wav (File file) []
unfolding reading chunks
new_file rates file h = (h, refl)

-- ---- a block

-- audio has taken so many octets of a block since, and these are the samples that end in them
pub record TakesOn (initial now : Audio) (octets : List ℕ) (count : ℕ) (found : List ℤ) : Type 0 where
  pub takes : (rates : Rates) (form : AudioForm) (before : List ℕ) → HasTakenAt rates form initial before
      → HasTakenAt rates form now (before ++ take count octets)
      × (samples_at rates form (before ++ take count octets) ≡ samples_at rates form before ++ found)
  pub few : length found ≤ count

pub takes_none : (audio : Audio) (octets : List ℕ) (found : List ℤ) → found ≡ [] → TakesOn audio audio octets 0 found
takes_none audio octets found none = record {
  takes = λ rates form before h. (
    subst (HasTakenAt rates form audio) (sym (append-nil before)) h,
    ap (samples_at rates form) (append-nil before) ∙ sym (append-nil (samples_at rates form before))
        ∙ ap (λ t. samples_at rates form before ++ t) (sym none),
  );
  few = (let l : length found ≡ 0 = ap length none in omega arith);
}

-- one octet more of the block
pub octet_more : (octets before : List ℕ) (count : ℕ) → count < length octets
    → before ++ take (count + 1) octets ≡ (before ++ take count octets) ++ get_or octets count 0 ∷ []
octet_more octets before count below =
    ap (λ t. before ++ t) (take_more octets count 0 below)
    ∙ sym (append_assoc before (take count octets) (get_or octets count 0 ∷ []))

pub takes_more : (initial was now : Audio) (octets : List ℕ) (count : ℕ) (found more : List ℤ) → count < length octets
    → TakesOn initial was octets count found
    → ((rates : Rates) (form : AudioForm) (before : List ℕ) → HasTakenAt rates form was before
    → HasTakenAt rates form now (before ++ get_or octets count 0 ∷ []))
    → ((rates : Rates) (form : AudioForm) (before : List ℕ) (front : List ℤ) → HasTakenAt rates form was before
    → samples_at rates form before ≡ front ++ found
    → samples_at rates form (before ++ get_or octets count 0 ∷ []) ≡ front ++ more)
    → length more ≤ length found + 1
    → TakesOn initial now octets (count + 1) more
takes_more initial was now octets count found more below h takes samples few = record {
  takes = λ rates form before k.
      let so_far = h.takes rates form before k in
      let longer = octet_more octets before count below in (
        subst (HasTakenAt rates form now) (sym longer) (takes rates form (before ++ take count octets) so_far.0),
        ap (samples_at rates form) longer ∙ samples rates form (before ++ take count octets)
            (samples_at rates form before) so_far.0 so_far.1,
      );
  few = (let l = h.few in omega arith);
}

-- many octets more of the block, the first of those that are left
pub takes_many : (initial was now : Audio) (octets left : List ℕ) (count many total : ℕ) (found more : List ℤ)
    → total ≡ count + many → left ≡ drop count octets → TakesOn initial was octets count found
    → ((rates : Rates) (form : AudioForm) (before : List ℕ) → HasTakenAt rates form was before
    → HasTakenAt rates form now (before ++ take many left))
    → ((rates : Rates) (form : AudioForm) (before : List ℕ) (front : List ℤ) → HasTakenAt rates form was before
    → samples_at rates form before ≡ front ++ found
    → samples_at rates form (before ++ take many left) ≡ front ++ more)
    → length more ≤ length found + many
    → TakesOn initial now octets total more
takes_many initial was now octets left count many total found more sum is h takes samples few = record {
  takes = λ rates form before k.
      let so_far = h.takes rates form before k in
      let longer : before ++ take total octets ≡ (before ++ take count octets) ++ take many left =
      ap (λ n. before ++ take n octets) sum ∙ ap (λ t. before ++ t) (take-add count many octets)
      ∙ ap (λ t. before ++ (take count octets ++ take many t)) (sym is)
      ∙ sym (append_assoc before (take count octets) (take many left)) in (
        subst (HasTakenAt rates form now) (sym longer) (takes rates form (before ++ take count octets) so_far.0),
        ap (samples_at rates form) longer ∙ samples rates form (before ++ take count octets)
            (samples_at rates form before) so_far.0 so_far.1,
      );
  few = (let l = h.few in omega (arith, l, few, sum));
}

-- a fault at an octet of the block stops at the block
pub stops_within : (initial was : Audio) (octets : List ℕ) (count : ℕ) (found : List ℤ) (fault : InputFault)
    → count < length octets
    → TakesOn initial was octets count found
    → ((rates : Rates) (form : AudioForm) (before : List ℕ) → HasTakenAt rates form was before
    → stopping_fault_at rates form (before ++ get_or octets count 0 ∷ []) ≡ Some fault)
    → (rates : Rates) (form : AudioForm) (before : List ℕ) → HasTakenAt rates form initial before
    → stopping_fault_at rates form (before ++ octets) ≡ Some fault
stops_within initial was octets count found fault below h stops rates form before k =
    let so_far = h.takes rates form before k in
    let here = stops rates form (before ++ take count octets) so_far.0 in
    let all : before ++ octets ≡ ((before ++ take count octets) ++ get_or octets count 0 ∷ [])
    ++ drop (count + 1) octets
    = ap (λ t. before ++ t) (sym (take-append-drop (count + 1) octets))
    ∙ sym (append_assoc before (take (count + 1) octets) (drop (count + 1) octets))
    ∙ ap (λ t. t ++ drop (count + 1) octets) (octet_more octets before count below) in
    ap (stopping_fault_at rates form) all ∙ stops_still rates form
    ((before ++ take count octets) ++ get_or octets count 0 ∷ []) (drop (count + 1) octets) fault here

-- what is wrong with a form is wrong with a WAV file
pub form_is_wav : (rates : Rates) (form : AudioForm) (octets : List ℕ) (fault : InputFault)
    → form_fault_at rates form octets ≡ Some fault → (wav : WavFault) × (fault ≡ BadWav wav)
form_is_wav rates Raw octets fault e = absurd cc
form_is_wav rates Wav octets fault e = by_verdict (verdict_of rates octets) e
  where
    by_verdict : (verdict : Result (Unit {0}) WavFault) → fault_in_verdict verdict ≡ Some fault
        → (wav : WavFault) × (fault ≡ BadWav wav)
    by_verdict (Ok x) k = absurd cc
    by_verdict (Err wav) k = let same : BadWav wav ≡ fault = cc k in (wav, sym same)

-- ---- the modem

-- Once a modem is chosen it stays; before that there is no sample.
pub modem_stays : (words : DecodeWords) (octets more : List ℕ)
    → (modem_of words (octets ++ more) ≡ modem_of words octets) ⊎ (samples_read words octets ≡ [])
modem_stays words octets more = by_words words.receiving words.audio
  where
    of_file : (rate : Option ℕ) → rate_in NarrowOrWide octets ≡ rate
        → (rate_of_file (rate_in NarrowOrWide (octets ++ more)) ≡ rate_of_file (rate_in NarrowOrWide octets))
        ⊎ (samples_in NarrowOrWide octets ≡ [])
    of_file None is = inr (quiet_before NarrowOrWide octets is)
    of_file (Some rate) is = inl (ap rate_of_file (rate_stays NarrowOrWide octets more rate is ∙ sym is))

    of_form : (named : SampleRate) (form : AudioForm)
        → (rate_for named form (octets ++ more) ≡ rate_for named form octets)
        ⊎ (samples_at NarrowOrWide form octets ≡ [])
    of_form named Raw = inl refl
    of_form named Wav = of_file (rate_in NarrowOrWide octets) refl

    by_words : (receiving : Receiving) (form : AudioForm)
        → (modem_for receiving form (octets ++ more) ≡ modem_for receiving form octets)
        ⊎ (samples_at (rates_of receiving) form octets ≡ [])
    by_words (Standard rate) form = elim (of_form rate form) [
      | inl same ↦ inl (ap plain_at same)
      | inr none ↦ inr none
    ]
    by_words (Sensitive rate) form = elim (of_form rate form) [
      | inl same ↦ inl (ap sensitive_at same)
      | inr none ↦ inr none
    ]
    by_words ShortWave form = inl refl
    by_words SensitiveShortWave form = inl refl
    by_words Fx25 form = inl refl
    by_words SensitiveFx25 form = inl refl
