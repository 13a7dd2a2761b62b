-- A reader of WAV files, octet by octet: an octet ends one sample at most.
use Rattle.tnc_decode.proofs.Common.{◌≡◌, ℕ, ◌+◌, ◌-◌, ◌<◌, ◌≤◌, ℤ, List, [], ◌∷◌, ◌++◌, length, take, drop, refl, ap, sym}
use Rattle.tnc_decode.proofs.Common.{subst, ◌∙◌, arith, append_assoc, append-nil, inl, inr, length-append, true, false}
use Rattle.tnc_decode.proofs.Common.{Option, Some, None, if◌then◌else◌, cases_lt, lt-ltb, le-ltb, WavFault, Rates}
use Rattle.tnc_decode.proofs.Common.{samples_in}
use Rattle.std.specs.Prelude.{suc, ◌==◌, ◌&&◌, nat_lt, codes, slice_index, is_none, Bool, ⊤}
use Rattle.std.specs.Str.{bytes_eq}
use Rattle.byteorder.specs.Endian.{little_number}
use Rattle.wav_file.specs.declared.fault.WavFault.TheVariants.{NotRiff, NotWave, NoFormat, BadFormat}
use Rattle.wav_file.specs.declared.field.Field.{Field}
use Rattle.wav_file.specs.declared.field.Field.TheVariants.{Format, Channels, Rate, ByteRate, Align, Bits}
use Rattle.wav_file.specs.declared.part.Part.{Part}
use Rattle.wav_file.specs.declared.part.Part.TheVariants.{Head, Chunk as AtChunk, Format as AtFormat, Data, Failed}
use Rattle.wav_file.specs.Place.{told_place}
use Rattle.wav_file.specs.Format.{width_of, number_of, accepts}
use Rattle.wav_file.specs.Reading.{given}
use Rattle.wav_file.specs.Held.{Held, Fits, StandsFor, Step, step_of, after_head, after_chunk_head, after_field, after_data}
use Rattle.wav_file.specs.Held.{after_data_octet, data_begun, format_begun, following, next_of, rate_after, to_part}
use Rattle.wav_file.specs.Held.{answer_of, fault_of_part}
use Rattle.wav_file.specs.Chunks.{padded}
use Rattle.wav_file.proofs.RestLemmas.{given_next, stands_new, stands_next}

-- one of two parts fits if both do
either : (P : Part → Type 0) (b : Bool) (p q : Part) → P p → P q → P (if b then p else q)
either P true p q first second = first
either P false p q first second = second

-- what comes past the head of the file
abbrev IsPast : Part → Type 0
IsPast Head = ⊥
IsPast other = ⊤

past_begun : (place : ℕ) (rate : Option ℕ) (size : ℕ) → IsPast (data_begun place rate size)
past_begun place None size = tt
past_begun place (Some rate) size = tt

past_chunk : (place : ℕ) (rate : Option ℕ) (name : List ℕ) (size : ℕ) → IsPast (after_chunk_head place rate name size)
past_chunk place rate name size =
    let format : Part = format_begun place size in
    let other : Part = AtChunk rate (padded size) in
    either IsPast (bytes_eq name (codes "data")) (data_begun place rate size)
    (if bytes_eq name (codes "fmt ") && is_none rate then format else other) (past_begun place rate size)
    (either IsPast (bytes_eq name (codes "fmt ") && is_none rate) format other
    (either IsPast (nat_lt size 16) (Failed (NoFormat place)) (AtFormat Format 0 (padded size - 16)) tt tt) tt)

past_following : (field : Option Field) (rate skip : ℕ) → IsPast (following field rate skip)
past_following (Some field) rate skip = tt
past_following None rate skip = tt

past_field : (rates : Rates) (place : ℕ) (field : Field) (rate skip value : ℕ)
    → IsPast (after_field rates place field rate skip value)
past_field rates place field rate skip value =
    either IsPast (accepts rates field value) (following (next_of field) (rate_after field rate value) skip)
    (Failed (BadFormat place (number_of field) value)) (past_following (next_of field) (rate_after field rate value) skip)
    tt

some_width : (field : Field) → 0 < width_of field
some_width Format = omega arith
some_width Channels = omega arith
some_width Rate = omega arith
some_width ByteRate = omega arith
some_width Align = omega arith
some_width Bits = omega arith

-- which a unit of no octets fits
fits_past : (place : ℕ) (part : Part) → IsPast part → Fits place part []
fits_past place Head past = absurd past
fits_past place (AtChunk rate skip) past = omega arith
fits_past place (AtFormat field rate skip) past = some_width field
fits_past place (Data rate left low) past = omega arith
fits_past place (Failed fault) past = omega arith

-- the head of the file
fits_head : (place octet : ℕ) (unit : List ℕ) → place < 12 → length unit < 1
    → Fits (told_place (place + 1)) (after_head place octet) unit
fits_head place octet unit below empty =
    let next : ℕ = told_place (place + 1) in
    let P : Part → Type 0 = λ part. Fits next part unit in
    let head : place < 11 → P Head = λ low. (omega arith, empty) in
    let last : Part = if slice_index (codes "WAVE") (place - 8) == octet
    then (if place == 11 then AtChunk None 0 else Head) else Failed (NotWave place) in
    let middle : Part = if nat_lt place 8 then Head else last in
    let first : Part = if slice_index (codes "RIFF") place == octet then Head else Failed (NotRiff place) in
    elim (cases_lt place 4) [
      | inl low ↦ subst P (sym (ap (λ b. if b then first else middle) (lt-ltb place 4 low)))
          (either P _ Head (Failed (NotRiff place)) (head (omega arith)) empty)
      | inr above ↦ subst P (sym (ap (λ b. if b then first else middle) (le-ltb place 4 above))) (elim (cases_lt place 8) [
        | inl low ↦ subst P (sym (ap (λ b. if b then Head else last) (lt-ltb place 8 low))) (head (omega arith))
        | inr past ↦ subst P (sym (ap (λ b. if b then Head else last) (le-ltb place 8 past)))
            (either P _ (if place == 11 then AtChunk None 0 else Head) (Failed (NotWave place))
            (elim (cases_lt place 11) [
              | inl low ↦ either P (place == 11) (AtChunk None 0) Head (omega arith) (head low)
              | inr end ↦
                  let is : place ≡ 11 = omega arith in
                  subst P (sym (ap (λ n. if n == 11 then AtChunk None 0 else Head) is)) (omega arith)
            ]) empty)
      ])
    ]

module _ (rates : Rates) where
  -- an octet more
  abbrev FitsStep : ℕ → Step → Type 0
  FitsStep place step = Fits (told_place (place + 1)) step.part step.unit

  either_step : (place : ℕ) (b : Bool) (s t : Step) → FitsStep place s → FitsStep place t
      → FitsStep place (if b then s else t)
  either_step place true s t first second = first
  either_step place false s t first second = second

  fits_data : (place rate : ℕ) (left low : Option ℕ) (octet : ℕ) (unit : List ℕ) → length unit < 1
      → Fits place (after_data rate left low octet).0 unit
  fits_data place rate None None octet unit empty = empty
  fits_data place rate None (Some low) octet unit empty = empty
  fits_data place rate (Some left) None octet unit empty =
      elim (left == 0) as (λ b. Fits place (if b then (Data rate (Some left) None, None)
      else after_data_octet rate (Some (left - 1)) None octet).0 unit) [ true ↦ empty | false ↦ empty ]
  fits_data place rate (Some left) (Some low) octet unit empty =
      elim (left == 0) as (λ b. Fits place (if b then (Data rate (Some left) (Some low), None)
      else after_data_octet rate (Some (left - 1)) (Some low) octet).0 unit) [ true ↦ empty | false ↦ empty ]

  fits_step : (place : ℕ) (part : Part) (unit : List ℕ) (octet : ℕ) → Fits place part unit
      → FitsStep place (step_of rates place part unit octet)
  fits_step place Head unit octet fits = fits_head place octet unit fits.0 fits.1
  fits_step place (AtChunk rate skip) unit octet fits =
      let longer : List ℕ = unit ++ octet ∷ [] in
      let ended : Step = to_part (after_chunk_head place rate (take 4 longer) (little_number 4 (drop 4 longer))) [] in
      let goes : Step = to_part (AtChunk rate 0) longer in
      let P : Step → Type 0 = FitsStep place in
      either_step place (nat_lt 0 skip) (to_part (AtChunk rate (skip - 1)) unit)
      (if nat_lt (length unit) 7 then goes else ended) fits (elim (cases_lt (length unit) 7) [
        | inl short ↦ subst P (sym (ap (λ b. if b then goes else ended) (lt-ltb (length unit) 7 short)))
            (omega (arith, length-append unit (octet ∷ [])))
        | inr full ↦ subst P (sym (ap (λ b. if b then goes else ended) (le-ltb (length unit) 7 full)))
            (fits_past (told_place (place + 1)) ended.part (past_chunk place rate (take 4 longer)
            (little_number 4 (drop 4 longer))))
      ])
  fits_step place (AtFormat field rate skip) unit octet fits =
      let longer : List ℕ = unit ++ octet ∷ [] in
      let ended : Step = to_part (after_field rates place field rate skip (little_number (width_of field) longer)) [] in
      let goes : Step = to_part (AtFormat field rate skip) longer in
      let P : Step → Type 0 = FitsStep place in
      elim (cases_lt (length unit + 1) (width_of field)) [
        | inl short ↦ subst P (sym (ap (λ b. if b then goes else ended) (lt-ltb (length unit + 1) (width_of field) short)))
            (omega (arith, length-append unit (octet ∷ [])))
        | inr full ↦ subst P (sym (ap (λ b. if b then goes else ended) (le-ltb (length unit + 1) (width_of field) full)))
            (fits_past (told_place (place + 1)) ended.part (past_field rates place field rate skip
            (little_number (width_of field) longer)))
      ]
  fits_step place (Data rate left low) unit octet fits = fits_data (told_place (place + 1)) rate left low octet unit fits
  fits_step place (Failed fault) unit octet fits = fits

  -- a reader of these octets
  pub record Reader (octets : List ℕ) : Type 0 where
    pub held : Held
    pub fits : Fits held.position held.part held.unit
    pub stands : StandsFor rates held octets

  few_given : (fault : Option WavFault) (sample : Option ℤ) → length (given (answer_of fault sample)) ≤ 1
  few_given None None = omega arith
  few_given None (Some sample) = omega arith
  few_given (Some fault) sample = omega arith

  -- with more octets it has given no more samples more
  abbrev ReadOn : List ℕ → List ℕ → Type 0
  ReadOn octets more = Reader (octets ++ more)
      × (length (samples_in rates (octets ++ more)) ≤ length (samples_in rates octets) + length more)

  pub read_on : (octets more : List ℕ) → Reader octets → ReadOn octets more
  read_on octets [] reader = subst (λ o. Reader o × (length (samples_in rates o) ≤ length (samples_in rates octets) + 0))
      (sym (append-nil octets)) (reader, omega arith)
  read_on octets (octet ∷ more) reader =
      let held = reader.held in
      let step : Step = step_of rates held.position held.part held.unit octet in
      let next : Held = record {
        rates = rates;
        position = told_place (held.position + 1);
        part = step.part;
        unit = step.unit;
      } in
      let fits = fits_step held.position held.part held.unit octet reader.fits in
      let gives = given_next rates held octets octet reader.stands reader.fits next step.sample refl fits in
      let size : length (samples_in rates (octets ++ octet ∷ [])) ≡ length (samples_in rates octets)
      + length (given (answer_of (fault_of_part step.part) step.sample)) = ap length gives
      ∙ length-append (samples_in rates octets) (given (answer_of (fault_of_part step.part) step.sample)) in
      let few = few_given (fault_of_part step.part) step.sample in
      let on = read_on (octets ++ octet ∷ []) more (record {
        held = next;
        fits = fits;
        stands = stands_next rates held octets octet reader.stands reader.fits next step.sample refl fits
            (sym reader.stands.takes) refl;
      }) in
      let later = on.1 in
      subst (λ o. Reader o × (length (samples_in rates o) ≤ length (samples_in rates octets) + suc (length more)))
      (append_assoc octets (octet ∷ []) more) (on.0, omega (arith, size, few, later))

  pub reader_of : (octets : List ℕ) → Reader octets
  reader_of octets = (read_on [] octets (record {
    held = record { rates = rates; position = 0; part = Head; unit = [] };
    fits = (omega arith, omega arith);
    stands = stands_new rates;
  })).0
