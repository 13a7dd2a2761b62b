-- What is kept stands for all octets so far.
use Rattle.std.proofs.Common.{◌≡◌, ℕ, zero, suc, ◌+◌, ◌-◌, ◌<◌, ◌≤◌, ltb, leb, eqb, cond, Bool, true, false, List, []}
use Rattle.std.proofs.Common.{◌∷◌, ◌++◌, length, take, drop, codes, refl, ap, subst, ◌∙◌, sym, arith, append_assoc}
use Rattle.std.proofs.Common.{append-nil, length-append, Option, Some, None, Err, ℤ}
use Rattle.std.specs.Option.{option_to_list}
use Rattle.std.specs.Result.{result_err}
use Rattle.std.proofs.lemmas.Bool.{cond-true, lt-ltb, lt-leb, ne_eqb}
use Rattle.std.proofs.lemmas.List.{length_push, drop_all, take_all}
use Rattle.byteorder.specs.Endian.{little_number}
use Rattle.wav_file.specs.declared.fault.WavFault.{WavFault}
use Rattle.wav_file.specs.declared.fault.WavFault.TheVariants.{NotRiff, NotWave}
use Rattle.wav_file.specs.declared.field.Field.{Field}
use Rattle.wav_file.specs.declared.field.Field.TheVariants.{Format, Channels, Rate, ByteRate, Align, Bits}
use Rattle.wav_file.specs.declared.part.Part.{Part}
use Rattle.wav_file.specs.declared.part.Part.TheVariants.{Head, Chunk as AtChunk, Format as AtFormat, Data, Failed}
use Rattle.wav_file.specs.declared.rates.Rates.{Rates}
use Rattle.wav_file.specs.Place.{told_place}
use Rattle.wav_file.specs.Chunks.{chunks}
use Rattle.wav_file.specs.Format.{width_of, field_fault}
use Rattle.wav_file.specs.Samples.{samples}
use Rattle.wav_file.specs.Reading.{Reading, unless, unfinished, formatted, unformatted, difference, reading, given}
use Rattle.wav_file.specs.Reading.{verdict_on, verdict_of, rate_in}
use Rattle.wav_file.specs.Held.{Held, Fits, Step, made, to_part, step_of, after_head, after_chunk_head, after_field}
use Rattle.wav_file.specs.Held.{after_data_octet, fault_of_part, whole_of_part, rate_of_part, answer_of, fields_from}
use Rattle.wav_file.specs.Held.{widths_from, rate_from, chunks_reading, head_reading, rest_reading, trailing, StandsFor}
use Rattle.wav_file.proofs.ChunkLemmas.{chunks_short}
use Rattle.wav_file.proofs.StepLemmas.{step_keeps, unit_grows, width_le}

-- what is read by a reader of these rates
module _ (rates : Rates) where
  difference_nil : (fault : ℕ → WavFault) (place : ℕ) (word : List ℕ) → difference fault place word [] ≡ None
  difference_nil fault place [] = refl
  difference_nil fault place (letter ∷ word) = refl

  chunks_end : (rate : Option ℕ) (place : ℕ) (octets : List ℕ) → length octets < 8
      → chunks_reading rates rate place octets ≡ record { fault = None; rate = rate; heard = []; whole = false }
  chunks_end None place octets few = ap (unformatted rates) (chunks_short place octets few)
  chunks_end (Some rate) place octets few = ap (formatted (Some rate)) (chunks_short place octets few)

  fields_end : (field : Field) (place : ℕ) (octets : List ℕ) → length octets < width_of field
      → field_fault rates (fields_from field) place octets ≡ None
  fields_end Format place octets few = cond-true _ _ _ (lt-ltb (length octets) 2 few)
  fields_end Channels place octets few = cond-true _ _ _ (lt-ltb (length octets) 2 few)
  fields_end Rate place octets few = cond-true _ _ _ (lt-ltb (length octets) 4 few)
  fields_end ByteRate place octets few = cond-true _ _ _ (lt-ltb (length octets) 4 few)
  fields_end Align place octets few = cond-true _ _ _ (lt-ltb (length octets) 2 few)
  fields_end Bits place octets few = cond-true _ _ _ (lt-ltb (length octets) 2 few)

  drop_nil : (count : ℕ) → drop count [] ≡ let none : List ℕ = [] in none
  drop_nil count = drop_all count [] (omega arith)

  leb_zero : (left : ℕ) → leb left 0 ≡ eqb left 0
  leb_zero zero = refl
  leb_zero (suc left) = lt-leb (suc left) 0 (omega arith) ∙ sym (ne_eqb (suc left) 0 (omega arith))

  take_nil : (count : ℕ) → take count [] ≡ let none : List ℕ = [] in none
  take_nil count = take_all count [] (omega arith)

  samples_low : (low : Option ℕ) → samples (option_to_list low) ≡ []
  samples_low None = refl
  samples_low (Some low) = refl

  -- The rest is read as nothing if nothing comes.
  pub at_end : (n place : ℕ) (part : Part) (unit : List ℕ) → Fits place part unit
      → rest_reading rates n part unit [] ≡ record {
        fault = fault_of_part part;
        rate = rate_of_part part;
        heard = [];
        whole = whole_of_part part;
      }
  at_end n place Head unit fits =
      ap (λ d. unless d (unless (difference NotWave (8 + (n - 8)) (drop (n - 8) (codes "WAVE")) (drop (8 - n) []))
      (chunks_reading rates None 12 (drop (12 - n) [])))) (difference_nil NotRiff n (drop n (codes "RIFF")))
      ∙ ap (λ xs. unless (difference NotWave (8 + (n - 8)) (drop (n - 8) (codes "WAVE")) xs)
      (chunks_reading rates None 12 (drop (12 - n) []))) (drop_nil (8 - n))
      ∙ ap (λ d. unless d (chunks_reading rates None 12 (drop (12 - n) [])))
      (difference_nil NotWave (8 + (n - 8)) (drop (n - 8) (codes "WAVE")))
      ∙ ap (chunks_reading rates None 12) (drop_nil (12 - n))
      ∙ chunks_end None 12 [] (omega arith)
  at_end n place (AtChunk rate skip) unit fits =
      ap (λ xs. chunks_reading rates rate (n + skip - length unit) (unit ++ xs)) (drop_nil skip)
      ∙ chunks_end rate (n + skip - length unit) (unit ++ []) (omega (arith, length-append unit [], fits))
  at_end n place (AtFormat field rate skip) unit fits =
      let few : length (unit ++ []) < width_of field = omega (arith, length-append unit [], fits) in
      let place : ℕ = n + (widths_from field - length unit) + skip in
      let count : ℕ = widths_from field - length unit + skip in
      let untold : rate_from field rate (unit ++ []) ≡ None =
      cond-true _ _ _ (lt-ltb (length (unit ++ [])) (widths_from field)
      (omega (arith, few, (width_le rates field).1))) in
      ap (λ fault. unless fault (formatted (rate_from field rate (unit ++ [])) (chunks place (drop count []))))
      (fields_end field (n - length unit) (unit ++ []) few)
      ∙ ap (λ told. formatted told (chunks place (drop count []))) untold
      ∙ ap (λ xs. formatted None (chunks place xs)) (drop_nil count)
      ∙ ap (formatted None) (chunks_short place [] (omega arith))
  at_end n place (Data rate None low) unit fits =
      ap (λ xs. record { fault = None; rate = Some rate; heard = xs; whole = true })
      (ap samples (append-nil (option_to_list low)) ∙ samples_low low)
  at_end n place (Data rate (Some left) low) unit fits =
      ap (λ xs. record {
        fault = None;
        rate = Some rate;
        heard = samples (option_to_list low ++ xs);
        whole = leb left 0;
      }) (take_nil left)
      ∙ ap (λ xs. record { fault = None; rate = Some rate; heard = xs; whole = leb left 0 })
      (ap samples (append-nil (option_to_list low)) ∙ samples_low low)
      ∙ ap (λ b. record { fault = None; rate = Some rate; heard = []; whole = b }) (leb_zero left)
  at_end n place (Failed fault) unit fits = refl

  -- ---- one octet more

  -- how the rest is read after the step of an octet
  abbrev pub rest_after : ℕ → Step → List ℕ → Reading
  rest_after n step more = rest_reading rates (suc n) step.part step.unit more

  -- the samples that a step gives are those of its answer
  abbrev Tells : Step → Type 0
  Tells step = given (answer_of (fault_of_part step.part) step.sample) ≡ option_to_list step.sample

  tells_none : (part : Part) (unit : List ℕ) → Tells (to_part part unit)
  tells_none part unit = by_fault (fault_of_part part)
    where
      by_fault : (fault : Option WavFault) → given (answer_of fault None) ≡ let none : List ℤ = [] in none
      by_fault None = refl
      by_fault (Some fault) = refl

  tells_either : (b : Bool) (P Q : Step) → Tells P → Tells Q → Tells (cond b P Q)
  tells_either true P Q first second = first
  tells_either false P Q first second = second

  tells : (place : ℕ) (part : Part) (unit : List ℕ) (octet : ℕ) → Tells (step_of rates place part unit octet)
  tells place Head unit octet = tells_none (after_head place octet) unit
  tells place (AtChunk rate skip) unit octet =
      let u : List ℕ = unit ++ octet ∷ [] in
      let ended : Part = after_chunk_head place rate (take 4 u) (little_number 4 (drop 4 u)) in
      let goes : Step = to_part (AtChunk rate 0) u in
      tells_either (ltb 0 skip) (to_part (AtChunk rate (skip - 1)) unit)
      (cond (ltb (length unit) 7) goes (to_part ended [])) (tells_none (AtChunk rate (skip - 1)) unit)
      (tells_either (ltb (length unit) 7) goes (to_part ended []) (tells_none (AtChunk rate 0) u) (tells_none ended []))
  tells place (AtFormat field rate skip) unit octet =
      let u : List ℕ = unit ++ octet ∷ [] in
      let ended : Part = after_field rates place field rate skip (little_number (width_of field) u) in
      tells_either (ltb (length unit + 1) (width_of field)) (to_part (AtFormat field rate skip) u) (to_part ended [])
      (tells_none (AtFormat field rate skip) u) (tells_none ended [])
  tells place (Data rate None None) unit octet = refl
  tells place (Data rate None (Some low)) unit octet = refl
  tells place (Data rate (Some left) low) unit octet =
      by_left (eqb left 0) (after_data_octet rate (Some (left - 1)) low octet) (tells_data (Some (left - 1)) low)
    where
      T : Part × Option ℤ → Type 0
      T p = given (answer_of (fault_of_part p.0) p.1) ≡ option_to_list p.1

      by_left : (b : Bool) (p : Part × Option ℤ) → T p → T (cond b (Data rate (Some left) low, None) p)
      by_left true p t = refl
      by_left false p t = t

      tells_data : (left low : Option ℕ) → T (after_data_octet rate left low octet)
      tells_data left None = refl
      tells_data left (Some low) = refl
  tells place (Failed fault) unit octet = refl

  module _ (held : Held) (octets : List ℕ) (octet : ℕ) (stands : StandsFor rates held octets)
      (fitted : Fits held.position held.part held.unit) where
    -- the file with one octet more
    one_more : (more : List ℕ) → reading rates (octets ++ octet ∷ more)
        ≡ trailing ((reading rates octets).heard ++ option_to_list
        (step_of rates held.position held.part held.unit octet).sample)
        (rest_after (length octets) (step_of rates held.position held.part held.unit octet) more)
    one_more more =
        let step : Step = step_of rates held.position held.part held.unit octet in
        stands.rest (octet ∷ more)
        ∙ ap (trailing (reading rates octets).heard) (step_keeps rates (length octets)
        held.position held.part held.unit octet more stands.place fitted stands.enough)
        ∙ ap (λ xs. record {
          fault = (rest_after (length octets) step more).fault;
          rate = (rest_after (length octets) step more).rate;
          heard = xs;
          whole = (rest_after (length octets) step more).whole;
        })
        (sym (append_assoc (reading rates octets).heard (option_to_list step.sample)
        (rest_after (length octets) step more).heard))

    -- what is kept after the octet
    module _ (next : Held) (sample : Option ℤ) (made_is : made next sample
        ≡ step_of rates held.position held.part held.unit octet) (fits : Fits next.position next.part next.unit) where
      after_more : (more : List ℕ) → reading rates (octets ++ octet ∷ more)
          ≡ trailing ((reading rates octets).heard ++ option_to_list sample)
          (rest_reading rates (suc (length octets)) next.part next.unit more)
      after_more more = subst (λ (step : Step). reading rates (octets ++ octet ∷ more)
          ≡ trailing ((reading rates octets).heard ++ option_to_list step.sample) (rest_after (length octets) step more))
          (sym made_is) (one_more more)

      now : reading rates (octets ++ octet ∷ []) ≡ record {
        fault = fault_of_part next.part;
        rate = rate_of_part next.part;
        heard = (reading rates octets).heard ++ option_to_list sample;
        whole = whole_of_part next.part;
      }
      now = after_more []
          ∙ ap (trailing ((reading rates octets).heard ++ option_to_list sample))
          (at_end (suc (length octets)) next.position next.part next.unit fits)
          ∙ ap (λ xs. record {
            fault = fault_of_part next.part;
            rate = rate_of_part next.part;
            heard = xs;
            whole = whole_of_part next.part;
          }) (append-nil ((reading rates octets).heard ++ option_to_list sample))

      samples_next : (reading rates (octets ++ octet ∷ [])).heard
          ≡ (reading rates octets).heard ++ option_to_list sample
      samples_next = ap (λ (r : Reading). r.heard) now

      pub given_next : (reading rates (octets ++ octet ∷ [])).heard
          ≡ (reading rates octets).heard ++ given (answer_of (fault_of_part next.part) sample)
      given_next =
          let told : given (answer_of (fault_of_part next.part) sample) ≡ option_to_list sample =
          subst Tells (sym made_is) (tells held.position held.part held.unit octet) in
          samples_next ∙ ap (λ xs. (reading rates octets).heard ++ xs) (sym told)

      pub fault_next : (reading rates (octets ++ octet ∷ [])).fault
          ≡ result_err (answer_of (fault_of_part next.part) sample)
      fault_next = ap (λ (r : Reading). r.fault) now ∙ by_fault (fault_of_part next.part)
        where
          by_fault : (fault : Option WavFault) → fault ≡ result_err (answer_of fault sample)
          by_fault None = refl
          by_fault (Some fault) = refl

      pub stands_next : next.rates ≡ held.rates → next.position ≡ told_place (held.position + 1)
          → StandsFor rates next (octets ++ octet ∷ [])
      stands_next same counted =
          let longer : length next.unit ≤ length held.unit + 1 =
          subst (λ (step : Step). length step.unit ≤ length held.unit + 1) (sym made_is)
          (unit_grows rates held.position held.part held.unit octet) in
          let count : length (octets ++ octet ∷ []) ≡ suc (length octets) = omega (arith, length_push octets octet) in
          record {
            takes = same ∙ stands.takes;
            place = omega (arith, counted, stands.place, length_push octets octet);
            enough = omega (arith, longer, stands.enough, length_push octets octet);
            rest = λ more.
                ap (reading rates) (append_assoc octets (octet ∷ []) more)
                ∙ after_more more
                ∙ ap (λ xs. trailing xs (rest_reading rates (suc (length octets)) next.part next.unit more))
                (sym samples_next)
                ∙ ap (λ n. trailing (reading rates (octets ++ octet ∷ [])).heard
                (rest_reading rates n next.part next.unit more)) (sym count);
          }

  -- ---- the ends

  -- before any octet
  pub stands_new : StandsFor rates (record { rates = rates; position = 0; part = Head; unit = [] }) []
  unfolding reading
  stands_new =
      let none : unformatted rates (chunks 12 []) ≡ unfinished = chunks_end None 12 [] (omega arith) in
      record {
        takes = refl;
        place = refl;
        enough = omega arith;
        rest = λ more. ap (λ (r : Reading). trailing r.heard (head_reading rates 0 more)) (sym none);
      }

  -- all that has come
  pub now_told : (held : Held) (octets : List ℕ) → StandsFor rates held octets → Fits held.position held.part held.unit
      → ((reading rates octets).fault ≡ fault_of_part held.part)
      × ((reading rates octets).whole ≡ whole_of_part held.part)
      × ((reading rates octets).rate ≡ rate_of_part held.part)
  now_told held octets stands fits =
      let all : reading rates octets ≡ trailing (reading rates octets).heard
      (rest_reading rates (length octets) held.part held.unit []) = ap (reading rates) (sym (append-nil octets))
      ∙ stands.rest [] in
      let end = at_end (length octets) held.position held.part held.unit fits in (
        ap (λ (r : Reading). r.fault) all ∙ ap (λ (r : Reading). r.fault) end,
        ap (λ (r : Reading). r.whole) all
            ∙ ap (λ (r : Reading). r.whole) end,
        ap (λ (r : Reading). r.rate) all ∙ ap (λ (r : Reading). r.rate) end,
      )

  -- a fault that has shown stays
  pub fault_again : (held : Held) (octets : List ℕ) (octet : ℕ) (fault : WavFault) (sample : Option ℤ) (next : Held)
      → StandsFor rates held octets → Fits held.position held.part held.unit
      → made next sample ≡ step_of rates held.position held.part held.unit octet
      → (reading rates octets).fault ≡ Some fault → answer_of (fault_of_part next.part) sample ≡ Err fault
  fault_again held octets octet fault sample next stands fits made_is shown =
      subst (λ (step : Step). answer_of (fault_of_part step.part) step.sample ≡ Err fault) (sym made_is)
      (by_part held.part (sym (now_told held octets stands fits).0 ∙ shown))
    where
      by_part : (part : Part) → fault_of_part part ≡ Some fault
          → answer_of (fault_of_part (step_of rates held.position part held.unit octet).part)
          (step_of rates held.position part held.unit octet).sample ≡ Err fault
      by_part Head e = absurd cc
      by_part (AtChunk rate skip) e = absurd cc
      by_part (AtFormat field rate skip) e = absurd cc
      by_part (Data rate left low) e = absurd cc
      by_part (Failed other) e = let same : other ≡ fault = cc in ap Err same

  -- what a file that ends here is worth, by the part
  pub verdict_now : (held : Held) (octets : List ℕ) → StandsFor rates held octets
      → Fits held.position held.part held.unit
      → verdict_on held.position (fault_of_part held.part) (whole_of_part held.part) ≡ verdict_of rates octets
  verdict_now held octets stands fits =
      let told = now_told held octets stands fits in
      sym (ap (λ fault. verdict_on (told_place (length octets)) fault (reading rates octets).whole) told.0
      ∙ ap (verdict_on (told_place (length octets)) (fault_of_part held.part)) told.1
      ∙ ap (λ place. verdict_on place (fault_of_part held.part) (whole_of_part held.part)) (sym stands.place))

  -- the rate of a file of these octets, by the part
  pub rate_now : (held : Held) (octets : List ℕ) → StandsFor rates held octets → Fits held.position held.part held.unit
      → rate_of_part held.part ≡ rate_in rates octets
  rate_now held octets stands fits = sym (now_told held octets stands fits).2
