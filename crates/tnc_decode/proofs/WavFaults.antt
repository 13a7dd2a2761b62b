-- A fault or a rate that the octets of a WAV file tell is told as well if more octets follow, and before any sample.
use Rattle.tnc_decode.proofs.Common.{◌≡◌, ℕ, ◌+◌, ◌-◌, ◌<◌, ◌≤◌, true, false, List, [], ◌∷◌, ◌++◌, length, take, drop}
use Rattle.tnc_decode.proofs.Common.{get_or, refl, ap, sym, subst, ◌∙◌, arith, inl, inr, length-append, length-drop}
use Rattle.tnc_decode.proofs.Common.{Option, Some, None, if◌then◌else◌, cases_lt, lt-ltb, le-ltb, drop_all, WavFault}
use Rattle.tnc_decode.proofs.Common.{Rates, chunks, Reading, reading, fault_in, rate_in, samples_in}
use Rattle.std.proofs.Common.{zero, suc, ◌*◌, Bool}
use Rattle.std.specs.Prelude.{codes, ◌==◌, nat_lt}
use Rattle.std.proofs.lemmas.Bool.{ltb-false}
use Rattle.std.proofs.lemmas.List.{take-append-le, drop-append-le, get_or_append_left}
use Rattle.byteorder.specs.Endian.{little_from, little_number}
use Rattle.wav_file.specs.declared.fault.WavFault.TheVariants.{NotRiff, NotWave, NoFormat, BadFormat}
use Rattle.wav_file.specs.declared.field.Field.{Field}
use Rattle.wav_file.specs.Place.{told_place}
use Rattle.wav_file.specs.Chunks.{Chunk, chunk_at, padded}
use Rattle.wav_file.specs.Format.{fields, field_fault, width_of, number_of, accepts, rate_at_front}
use Rattle.wav_file.specs.Reading.{unfinished, failed, unless, difference, is_format, is_data, endless_size, of_data}
use Rattle.wav_file.specs.Reading.{formatted, of_format, unformatted}
use Rattle.wav_file.proofs.ChunkLemmas.{chunks_short, chunks_whole}

-- what a reader of these rates reads
module _ (rates : Rates) where
  -- ---- the first letters

  difference_whole : (fault : ℕ → WavFault) (place : ℕ) (word octets more : List ℕ) → length word ≤ length octets
      → difference fault place word (octets ++ more) ≡ difference fault place word octets
  difference_whole fault place [] octets more l = refl
  difference_whole fault place (letter ∷ word) [] more l = absurd (omega arith)
  difference_whole fault place (letter ∷ word) (octet ∷ octets) more l =
      ap (λ t. if letter == octet then t else Some (fault place))
      (difference_whole fault (place + 1) word octets more (omega arith))

  difference_stays : (fault : ℕ → WavFault) (place : ℕ) (word octets more : List ℕ) (shown : WavFault)
      → difference fault place word octets ≡ Some shown
      → difference fault place word (octets ++ more) ≡ Some shown
  difference_stays fault place [] octets more shown e = absurd cc
  difference_stays fault place (letter ∷ word) [] more shown e = absurd cc
  difference_stays fault place (letter ∷ word) (octet ∷ octets) more shown e =
      (elim (letter == octet)
      as (λ t. (if t then difference fault (place + 1) word octets else Some (fault place)) ≡ Some shown
      → (if t then difference fault (place + 1) word (octets ++ more) else Some (fault place)) ≡ Some shown)
      [ true ↦ difference_stays fault (place + 1) word octets more shown | false ↦ λ k. k ]) e

  -- ---- numbers and fields

  little_longer : (i n : ℕ) (octets more : List ℕ) → i + n ≤ length octets
      → little_from i n (octets ++ more) ≡ little_from i n octets
  little_longer i zero octets more l = refl
  little_longer i (suc n) octets more l =
      ap (λ low. low + 256 * little_from (suc i) n (octets ++ more)) (get_or_append_left octets more 0 i (omega arith))
      ∙ ap (λ high. get_or octets i 0 + 256 * high) (little_longer (suc i) n octets more (omega arith))

  fields_stay : (list : List Field) (place : ℕ) (octets more : List ℕ) (shown : WavFault)
      → field_fault rates list place octets ≡ Some shown
      → field_fault rates list place (octets ++ more) ≡ Some shown
  fields_stay [] place octets more shown e = absurd cc
  fields_stay (field ∷ others) place octets more shown e =
      let width : ℕ = width_of field in
      let judged : ℕ → List ℕ → Option WavFault
      = λ value rest. if accepts rates field value then field_fault rates others (place + width) rest
      else Some (BadFormat (told_place (place + width - 1)) (number_of field) value) in
      elim (cases_lt (length octets) width) [
        | inl short ↦
            let none : field_fault rates (field ∷ others) place octets ≡ None =
            ap (λ t. if t then None else judged (little_number width octets) (drop width octets))
            (lt-ltb (length octets) width short) in
            let both : None ≡ Some shown = sym none ∙ e in
            absurd cc
        | inr whole ↦
            let value : ℕ = little_number width octets in
            let first : field_fault rates (field ∷ others) place octets ≡ judged value (drop width octets)
            = ap (λ t. if t then None else judged value (drop width octets)) (le-ltb (length octets) width whole) in
            let second : field_fault rates (field ∷ others) place (octets ++ more)
            ≡ judged value (drop width octets ++ more)
            = ap (λ t. if t then None else judged (little_number width (octets ++ more)) (drop width (octets ++ more)))
            (le-ltb (length (octets ++ more)) width (omega (arith, length-append octets more)))
            ∙ ap (λ v. judged v (drop width (octets ++ more))) (little_longer 0 width octets more (omega arith))
            ∙ ap (judged value) (drop-append-le width octets more whole) in
            second
            ∙ (elim (accepts rates field value)
            as (λ t. (if t then field_fault rates others (place + width) (drop width octets)
            else Some (BadFormat (told_place (place + width - 1)) (number_of field) value)) ≡ Some shown
            → (if t then field_fault rates others (place + width) (drop width octets ++ more)
            else Some (BadFormat (told_place (place + width - 1)) (number_of field) value)) ≡ Some shown)
            [ true ↦ fields_stay others (place + width) (drop width octets) more shown | false ↦ λ k. k ]) (sym first
            ∙ e)
      ]

  -- how many octets fields have
  abbrev widths : List Field → ℕ
  widths [] = 0
  widths (field ∷ others) = width_of field + widths others

  -- fields that are there are judged alike with more octets after them
  fields_whole : (list : List Field) (place : ℕ) (octets more : List ℕ) → widths list ≤ length octets
      → field_fault rates list place (octets ++ more) ≡ field_fault rates list place octets
  fields_whole [] place octets more enough = refl
  fields_whole (field ∷ others) place octets more enough =
      let width : ℕ = width_of field in
      let value : ℕ = little_number width octets in
      let judged : ℕ → List ℕ → Option WavFault
      = λ value rest. if accepts rates field value then field_fault rates others (place + width) rest
      else Some (BadFormat (told_place (place + width - 1)) (number_of field) value) in
      let whole : width ≤ length octets = omega arith in
      let first : field_fault rates (field ∷ others) place octets ≡ judged value (drop width octets)
      = ap (λ t. if t then None else judged value (drop width octets)) (le-ltb (length octets) width whole) in
      let second : field_fault rates (field ∷ others) place (octets ++ more) ≡ judged value (drop width octets ++ more)
      = ap (λ t. if t then None else judged (little_number width (octets ++ more)) (drop width (octets ++ more)))
      (le-ltb (length (octets ++ more)) width (omega (arith, length-append octets more)))
      ∙ ap (λ v. judged v (drop width (octets ++ more))) (little_longer 0 width octets more (omega arith))
      ∙ ap (judged value) (drop-append-le width octets more whole) in
      second
      ∙ elim (accepts rates field value)
      as (λ t. (if t then field_fault rates others (place + width) (drop width octets ++ more)
      else Some (BadFormat (told_place (place + width - 1)) (number_of field) value))
      ≡ (if t then field_fault rates others (place + width) (drop width octets)
      else Some (BadFormat (told_place (place + width - 1)) (number_of field) value))) [
        | true ↦ fields_whole others (place + width) (drop width octets) more (omega (arith, length-drop width octets))
        | false ↦ refl
      ]
      ∙ sym first

  -- ---- chunks

  -- after the format no fault shows
  faultless : (rate : Option ℕ) (list : List Chunk) → (formatted rate list).fault ≡ None
  faultless rate [] = refl
  faultless rate (chunk ∷ others) =
      elim (is_data chunk) as (λ t. (if t then of_data rate chunk else formatted rate others).fault ≡ None) [
        | true ↦ data_faultless chunk
        | false ↦ faultless rate others
      ]
    where
      data_faultless : (chunk : Chunk) → (of_data rate chunk).fault ≡ None
      data_faultless chunk = by_size (nat_lt chunk.size endless_size) refl
        where
          by_size : (b : Bool) → nat_lt chunk.size endless_size ≡ b → (of_data rate chunk).fault ≡ None
          by_size true is = rw is refl
          by_size false is = rw is refl

  -- and the rate is that of the format
  keeps_rate : (rate : Option ℕ) (list : List Chunk) → (formatted rate list).rate ≡ rate
  keeps_rate rate [] = refl
  keeps_rate rate (chunk ∷ others) =
      elim (is_data chunk) as (λ t. (if t then of_data rate chunk else formatted rate others).rate ≡ rate) [
        | true ↦ data_rate chunk
        | false ↦ keeps_rate rate others
      ]
    where
      data_rate : (chunk : Chunk) → (of_data rate chunk).rate ≡ rate
      data_rate chunk = by_size (nat_lt chunk.size endless_size) refl
        where
          by_size : (b : Bool) → nat_lt chunk.size endless_size ≡ b → (of_data rate chunk).rate ≡ rate
          by_size true is = rw is refl
          by_size false is = rw is refl

  -- ---- what a reading tells: the fault or the rate

  module _ {X : Type 0} (tells : Reading → Option X) (nothing : tells unfinished ≡ None)
      (after_format : (place : ℕ) (following more : List ℕ) (others others' : List Chunk) (shown : X)
      → field_fault rates fields (place + 8) following ≡ None
      → tells (formatted (rate_at_front following) others) ≡ Some shown
      → tells (unless (field_fault rates fields (place + 8) (following ++ more))
      (formatted (rate_at_front (following ++ more)) others')) ≡ Some shown) where
    format_stays : (place size : ℕ) (name following more : List ℕ) (others others' : List Chunk) (shown : X)
        → tells (of_format rates (record { place = place; name = name; size = size; trailing = following }) others)
        ≡ Some shown
        → tells (of_format rates (record { place = place; name = name; size = size; trailing = following ++ more }) others')
        ≡ Some shown
    format_stays place size name following more others others' shown e =
        (elim (nat_lt size 16)
        as (λ t. tells (if t then failed (NoFormat (told_place (place + 7)))
        else unless (field_fault rates fields (place + 8) following) (formatted (rate_at_front following) others))
        ≡ Some shown
        → tells (if t then failed (NoFormat (told_place (place + 7)))
        else unless (field_fault rates fields (place + 8) (following ++ more))
        (formatted (rate_at_front (following ++ more)) others')) ≡ Some shown)
        [ true ↦ λ k. k | false ↦ by_fields (field_fault rates fields (place + 8) following) refl ]) e
      where
        by_fields : (fault : Option WavFault) → field_fault rates fields (place + 8) following ≡ fault
            → tells (unless fault (formatted (rate_at_front following) others)) ≡ Some shown
            → tells (unless (field_fault rates fields (place + 8) (following ++ more))
            (formatted (rate_at_front (following ++ more)) others')) ≡ Some shown
        by_fields (Some fault) is k = ap (λ t. tells (unless t (formatted (rate_at_front (following ++ more)) others')))
            (fields_stay fields (place + 8) following more fault is) ∙ k
        by_fields None is k = after_format place following more others others' shown is k

    no_chunk : (place : ℕ) (octets : List ℕ) (shown : X) → length octets < 8
        → tells (unformatted rates (chunks place octets)) ≡ Some shown → ⊥
    no_chunk place octets shown short e =
        let both : None ≡ Some shown = sym (ap (λ list. tells (unformatted rates list))
        (chunks_short place octets short) ∙ nothing) ∙ e in
        cc

    -- a fault in the first chunk stays, and so does one after it, if each fault of fewer octets does
    chunk_stays : (place : ℕ) (octets more : List ℕ) (shown : X)
        → ((place : ℕ) (others : List ℕ) → length others < length octets
        → tells (unformatted rates (chunks place others)) ≡ Some shown
        → tells (unformatted rates (chunks place (others ++ more))) ≡ Some shown)
        → (size : ℕ) → little_number 4 (drop 4 octets) ≡ size → 8 ≤ length octets
        → tells (unformatted rates (chunks place octets)) ≡ Some shown
        → tells (unformatted rates (chunks place (octets ++ more))) ≡ Some shown
    chunk_stays place octets more shown again size told whole e =
        let name : List ℕ = take 4 octets in
        let following : List ℕ = drop 8 octets in
        let with : List ℕ → ℕ → List ℕ → Chunk = λ name size following. record {
          place = place;
          name = name;
          size = size;
          trailing = following;
        } in
        let next : ℕ → List ℕ → List Chunk = λ size following. chunks (place + 8 + padded size) (drop (padded size) following)
        in
        let first : chunks place octets ≡ with name size following ∷ next size following
        = chunks_whole place octets whole ∙ ap (λ s. with name s following ∷ next s following) told in
        let size_longer : little_number 4 (drop 4 (octets ++ more)) ≡ size
        = ap (little_number 4) (drop-append-le 4 octets more (omega arith))
        ∙ little_longer 0 4 (drop 4 octets) more (omega (arith, length-drop 4 octets)) ∙ told in
        let second : chunks place (octets ++ more) ≡ with name size (following ++ more) ∷ next size (following ++ more)
        = chunks_whole place (octets ++ more) (omega (arith, length-append octets more))
        ∙ ap (λ s. with (take 4 (octets ++ more)) s (drop 8 (octets ++ more)) ∷ next s (drop 8 (octets ++ more)))
        size_longer
        ∙ ap (λ l. with l size (drop 8 (octets ++ more)) ∷ next size (drop 8 (octets ++ more)))
        (take-append-le 4 octets more (omega arith))
        ∙ ap (λ l. with name size l ∷ next size l) (drop-append-le 8 octets more whole) in
        let rest : tells (unformatted rates (next size following)) ≡ Some shown
        → tells (unformatted rates (next size (following ++ more))) ≡ Some shown
        = λ k. elim (cases_lt (length following) (padded size)) [
          | inl short ↦ absurd (no_chunk (place + 8 + padded size) (drop (padded size) following) shown
              (omega (arith, length-drop (padded size) following)) k)
          | inr enough ↦
              ap (λ l. tells (unformatted rates (chunks (place + 8 + padded size) l)))
              (drop-append-le (padded size) following more enough)
              ∙ again (place + 8 + padded size) (drop (padded size) following)
              (omega (arith, length-drop (padded size) following, length-drop 8 octets)) k
        ] in
        ap (λ list. tells (unformatted rates list)) second
        ∙ (elim (is_data (with name size following))
        as (λ t. tells (if t then failed (NoFormat (told_place (place + 7)))
        else (if is_format (with name size following) then of_format rates (with name size following) (next size following)
        else unformatted rates (next size following))) ≡ Some shown
        → tells (if t then failed (NoFormat (told_place (place + 7)))
        else (if is_format (with name size following) then of_format rates (with name size (following ++ more))
        (next size (following ++ more)) else unformatted rates (next size (following ++ more)))) ≡ Some shown) [
          | true ↦ λ k. k
          | false ↦
              elim (is_format (with name size following))
              as (λ t. tells (if t then of_format rates (with name size following) (next size following)
              else unformatted rates (next size following)) ≡ Some shown
              → tells (if t then of_format rates (with name size (following ++ more)) (next size (following ++ more))
              else unformatted rates (next size (following ++ more))) ≡ Some shown) [
                | true ↦ format_stays place size name following more (next size following) (next size (following ++ more))
                    shown
                | false ↦ rest
              ]
        ]) (sym (ap (λ list. tells (unformatted rates list)) first) ∙ e)

    chunks_stay : (n place : ℕ) (octets more : List ℕ) (shown : X) → length octets ≤ n
        → tells (unformatted rates (chunks place octets)) ≡ Some shown
        → tells (unformatted rates (chunks place (octets ++ more))) ≡ Some shown
    chunks_stay zero place octets more shown fits e = absurd (no_chunk place octets shown (omega arith) e)
    chunks_stay (suc n) place octets more shown fits e =
        elim (cases_lt (length octets) 8) [
          | inl short ↦ absurd (no_chunk place octets shown short e)
          | inr whole ↦ chunk_stays place octets more shown (λ p others l k.
              chunks_stay n p others more shown (omega arith) k) (little_number 4 (drop 4 octets)) refl whole e
        ]

    -- ---- the whole file

    pub reading_stays : (octets more : List ℕ) (shown : X) → tells (reading rates octets) ≡ Some shown
        → tells (reading rates (octets ++ more)) ≡ Some shown
    unfolding reading
    reading_stays octets more shown e = by_riff (difference NotRiff 0 (codes "RIFF") octets) refl e
      where
        none_after : length octets ≤ 11 → tells (unformatted rates (chunks 12 (drop 12 octets))) ≡ Some shown → ⊥
        none_after few k = no_chunk 12 (drop 12 octets) shown (omega (arith, length-drop 12 octets)) k

        by_wave : (fault : Option WavFault) → difference NotWave 8 (codes "WAVE") (drop 8 octets) ≡ fault
            → 8 ≤ length octets
            → tells (unless fault (unformatted rates (chunks 12 (drop 12 octets)))) ≡ Some shown
            → tells (unless (difference NotWave 8 (codes "WAVE") (drop 8 (octets ++ more)))
            (unformatted rates (chunks 12 (drop 12 (octets ++ more))))) ≡ Some shown
        by_wave (Some fault) is enough k =
            ap (λ l. tells (unless (difference NotWave 8 (codes "WAVE") l)
            (unformatted rates (chunks 12 (drop 12 (octets ++ more)))))) (drop-append-le 8 octets more enough)
            ∙ ap (λ t. tells (unless t (unformatted rates (chunks 12 (drop 12 (octets ++ more))))))
            (difference_stays NotWave 8 (codes "WAVE") (drop 8 octets) more fault is) ∙ k
        by_wave None is enough k =
            elim (cases_lt (length octets) 12) [
              | inl few ↦ absurd (none_after (omega arith) k)
              | inr whole ↦
                  ap (λ l. tells (unless (difference NotWave 8 (codes "WAVE") l)
                  (unformatted rates (chunks 12 (drop 12 (octets ++ more)))))) (drop-append-le 8 octets more enough)
                  ∙ ap (λ t. tells (unless t (unformatted rates (chunks 12 (drop 12 (octets ++ more))))))
                  (difference_whole NotWave 8 (codes "WAVE") (drop 8 octets) more
                  (let four : length (codes "WAVE") ≡ 4 = refl in omega (arith, length-drop 8 octets)) ∙ is)
                  ∙ ap (λ l. tells (unformatted rates (chunks 12 l))) (drop-append-le 12 octets more whole)
                  ∙ chunks_stay (length (drop 12 octets)) 12 (drop 12 octets) more shown (omega arith) k
            ]

        short_wave : length octets < 8 → tells (unless (difference NotWave 8 (codes "WAVE") (drop 8 octets))
            (unformatted rates (chunks 12 (drop 12 octets)))) ≡ Some shown → ⊥
        short_wave few k =
            none_after (omega arith)
            (ap (λ l. tells (unless (difference NotWave 8 (codes "WAVE") l)
            (unformatted rates (chunks 12 (drop 12 octets))))) (sym (drop_all 8 octets (omega arith))) ∙ k)

        by_riff : (fault : Option WavFault) → difference NotRiff 0 (codes "RIFF") octets ≡ fault
            → tells (unless fault (unless (difference NotWave 8 (codes "WAVE") (drop 8 octets))
            (unformatted rates (chunks 12 (drop 12 octets))))) ≡ Some shown
            → tells (unless (difference NotRiff 0 (codes "RIFF") (octets ++ more))
            (unless (difference NotWave 8 (codes "WAVE") (drop 8 (octets ++ more)))
            (unformatted rates (chunks 12 (drop 12 (octets ++ more)))))) ≡ Some shown
        by_riff (Some fault) is k =
            ap (λ t. tells (unless t (unless (difference NotWave 8 (codes "WAVE") (drop 8 (octets ++ more)))
            (unformatted rates (chunks 12 (drop 12 (octets ++ more)))))))
            (difference_stays NotRiff 0 (codes "RIFF") octets more fault is) ∙ k
        by_riff None is k =
            elim (cases_lt (length octets) 8) [
              | inl few ↦ absurd (short_wave few k)
              | inr enough ↦
                  ap (λ t. tells (unless t (unless (difference NotWave 8 (codes "WAVE") (drop 8 (octets ++ more)))
                  (unformatted rates (chunks 12 (drop 12 (octets ++ more)))))))
                  (difference_whole NotRiff 0 (codes "RIFF") octets more (let four : length (codes "RIFF") ≡ 4 = refl in
                  omega arith) ∙ is)
                  ∙ by_wave (difference NotWave 8 (codes "WAVE") (drop 8 octets)) refl enough k
            ]

  -- a fault stays
  pub fault_stays : (octets more : List ℕ) (shown : WavFault) → fault_in rates octets ≡ Some shown
      → fault_in rates (octets ++ more) ≡ Some shown
  fault_stays = reading_stays (λ r. r.fault) refl
      (λ place following more others others' shown is k. let both : None ≡ Some shown =
      sym (faultless (rate_at_front following) others) ∙ k in absurd cc)

  -- so does the rate
  pub rate_stays : (octets more : List ℕ) (rate : ℕ) → rate_in rates octets ≡ Some rate
      → rate_in rates (octets ++ more) ≡ Some rate
  rate_stays = reading_stays (λ r. r.rate) refl (λ place following more others others' rate is k.
      let here : rate_at_front following ≡ Some rate = sym (keeps_rate (rate_at_front following) others) ∙ k in
      elim (cases_lt (length following) 16) [
        | inl few ↦
            let none : rate_at_front following ≡ None = ap (λ t. if t then None
            else Some (little_number 4 (drop 4 following))) (lt-ltb (length following) 16 few) in
            let both : None ≡ Some rate = sym none ∙ here in
            absurd cc
        | inr enough ↦
            let first : rate_at_front following ≡ Some (little_number 4 (drop 4 following))
            = ap (λ t. if t then None else Some (little_number 4 (drop 4 following))) (le-ltb (length following) 16 enough) in
            let second : rate_at_front (following ++ more) ≡ Some (little_number 4 (drop 4 (following ++ more)))
            = ap (λ t. if t then None else Some (little_number 4 (drop 4 (following ++ more))))
            (le-ltb (length (following ++ more)) 16 (omega (arith, length-append following more))) in
            let same : little_number 4 (drop 4 (following ++ more)) ≡ little_number 4 (drop 4 following)
            = ap (little_number 4) (drop-append-le 4 following more (omega arith))
            ∙ little_longer 0 4 (drop 4 following) more (omega (arith, length-drop 4 following)) in
            ap (λ t. (unless t (formatted (rate_at_front (following ++ more)) others')).rate)
            (fields_whole fields (place + 8) following more enough ∙ is)
            ∙ keeps_rate (rate_at_front (following ++ more)) others' ∙ second ∙ ap Some same ∙ sym first ∙ here
      ])

  -- ---- no sample before a fault

  abbrev IsSilent : Reading → Type 0
  IsSilent r = (shown : WavFault) → r.fault ≡ Some shown → r.heard ≡ []

  silent_unless : (fault : Option WavFault) (r : Reading) → IsSilent r → IsSilent (unless fault r)
  silent_unless (Some fault) r h shown e = refl
  silent_unless None r h shown e = h shown e

  silent_formatted : (rate : Option ℕ) (list : List Chunk) → IsSilent (formatted rate list)
  silent_formatted rate list shown e = let both : None ≡ Some shown = sym (faultless rate list) ∙ e in absurd cc

  silent_unformatted : (list : List Chunk) → IsSilent (unformatted rates list)
  silent_unformatted [] shown e = refl
  silent_unformatted (chunk ∷ others) shown e =
      (elim (is_data chunk) as (λ t. IsSilent (if t then failed (NoFormat (told_place (chunk.place + 7)))
      else (if is_format chunk then of_format rates chunk others else unformatted rates others))) [
        | true ↦ λ shown e. refl
        | false ↦
            elim (is_format chunk) as (λ t. IsSilent (if t then of_format rates chunk others
            else unformatted rates others)) [
              | true ↦
                  elim (nat_lt chunk.size 16) as (λ t. IsSilent (if t then failed
                  (NoFormat (told_place (chunk.place + 7))) else unless
                  (field_fault rates fields (chunk.place + 8) chunk.trailing)
                  (formatted (rate_at_front chunk.trailing) others))) [
                    | true ↦ λ shown e. refl
                    | false ↦ silent_unless (field_fault rates fields (chunk.place + 8)
                        chunk.trailing) (formatted (rate_at_front chunk.trailing) others)
                        (silent_formatted (rate_at_front chunk.trailing) others)
                  ]
              | false ↦ silent_unformatted others
            ]
      ]) shown e

  pub silent_before : (octets : List ℕ) (shown : WavFault) → fault_in rates octets ≡ Some shown
      → samples_in rates octets ≡ []
  unfolding reading
  silent_before octets = silent_unless (difference NotRiff 0 (codes "RIFF") octets)
      (unless (difference NotWave 8 (codes "WAVE") (drop 8 octets)) (unformatted rates (chunks 12 (drop 12 octets))))
      (silent_unless (difference NotWave 8 (codes "WAVE") (drop 8 octets))
      (unformatted rates (chunks 12 (drop 12 octets))) (silent_unformatted (chunks 12 (drop 12 octets))))

  -- ---- and none before the rate

  abbrev IsQuiet : Reading → Type 0
  IsQuiet r = r.rate ≡ None → r.heard ≡ []

  quiet_unless : (fault : Option WavFault) (r : Reading) → IsQuiet r → IsQuiet (unless fault r)
  quiet_unless (Some fault) r h e = refl
  quiet_unless None r h e = h e

  -- after a format that is not there to its end stands no chunk
  quiet_formatted : (place size : ℕ) (following : List ℕ) → 16 ≤ size
      → IsQuiet (formatted (rate_at_front following) (chunks place (drop (padded size) following)))
  quiet_formatted place size following large e =
      elim (cases_lt (length following) 16) [
        | inl few ↦
            ap (λ l. (formatted (rate_at_front following) (chunks place l)).heard)
            (drop_all (padded size) following (omega arith))
            ∙ ap (λ list. (formatted (rate_at_front following) list).heard) (chunks_short place [] (omega arith))
        | inr enough ↦
            let value : ℕ = little_number 4 (drop 4 following) in
            let some : rate_at_front following ≡ Some value = ap (λ t. if t then None else Some value)
            (le-ltb (length following) 16 enough) in
            let both : Some value ≡ None = sym some
            ∙ sym (keeps_rate (rate_at_front following) (chunks place (drop (padded size) following))) ∙ e in
            absurd cc
      ]

  -- a chunk before those that tell no sample
  quiet_chunk : (place : ℕ) (chunk : Chunk) → chunk.place ≡ place
      → IsQuiet (unformatted rates (chunks (place + 8 + padded chunk.size) (drop (padded chunk.size) chunk.trailing)))
      → IsQuiet (unformatted rates (chunk ∷ chunks (place + 8 + padded chunk.size)
      (drop (padded chunk.size) chunk.trailing)))
  quiet_chunk place chunk at again =
      elim (is_data chunk) as (λ t. IsQuiet (if t then failed (NoFormat (told_place (chunk.place + 7)))
      else (if is_format chunk then of_format rates chunk others else unformatted rates others))) [
        | true ↦ λ e. refl
        | false ↦ elim (is_format chunk) as (λ t. IsQuiet (if t then of_format rates chunk others
            else unformatted rates others)) [
              | true ↦ by_size (nat_lt chunk.size 16) refl
              | false ↦ again
            ]
      ]
    where
      others : List Chunk
      others = chunks (place + 8 + padded chunk.size) (drop (padded chunk.size) chunk.trailing)

      by_size : (b : Bool) → nat_lt chunk.size 16 ≡ b
          → IsQuiet (if b then failed (NoFormat (told_place (chunk.place + 7)))
          else unless (field_fault rates fields (chunk.place + 8) chunk.trailing)
          (formatted (rate_at_front chunk.trailing) others))
      by_size true is = λ e. refl
      by_size false is =
          quiet_unless (field_fault rates fields (chunk.place + 8) chunk.trailing)
          (formatted (rate_at_front chunk.trailing) others)
          (quiet_formatted (place + 8 + padded chunk.size) chunk.size chunk.trailing (ltb-false chunk.size 16 is))

  quiet_chunks : (n place : ℕ) (octets : List ℕ) → length octets ≤ n → IsQuiet (unformatted rates (chunks place octets))
  quiet_chunks zero place octets fits = λ e. ap (λ list. (unformatted rates list).heard)
      (chunks_short place octets (omega arith))
  quiet_chunks (suc n) place octets fits =
      elim (cases_lt (length octets) 8) [
        | inl short ↦ λ e. ap (λ list. (unformatted rates list).heard) (chunks_short place octets short)
        | inr whole ↦
            let chunk : Chunk = chunk_at place octets in
            subst (λ list. IsQuiet (unformatted rates list)) (sym (chunks_whole place octets whole))
            (quiet_chunk place chunk refl (quiet_chunks n (place + 8 + padded chunk.size)
            (drop (padded chunk.size) chunk.trailing)
            (omega (arith, length-drop (padded chunk.size) chunk.trailing, length-drop 8 octets))))
      ]

  pub quiet_before : (octets : List ℕ) → rate_in rates octets ≡ None → samples_in rates octets ≡ []
  unfolding reading
  quiet_before octets = quiet_unless (difference NotRiff 0 (codes "RIFF") octets)
      (unless (difference NotWave 8 (codes "WAVE") (drop 8 octets)) (unformatted rates (chunks 12 (drop 12 octets))))
      (quiet_unless (difference NotWave 8 (codes "WAVE") (drop 8 octets))
      (unformatted rates (chunks 12 (drop 12 octets))) (quiet_chunks (length (drop 12 octets)) 12 (drop 12 octets)
      (omega arith)))
