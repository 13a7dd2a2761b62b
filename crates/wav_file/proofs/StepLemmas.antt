-- What an octet does to the reading of the rest.
use Rattle.std.proofs.Common.{◌≡◌, ℕ, zero, suc, ◌+◌, ◌-◌, ◌<◌, ◌≤◌, ltb, leb, eqb, cond, Bool, true, false, ◌&&◌, List}
use Rattle.std.proofs.Common.{[], ◌∷◌, ◌++◌, length, take, drop, refl, ap, subst, ◌∙◌, sym, inl, inr, arith, zero-add}
use Rattle.std.proofs.Common.{append_assoc, length-append, Option, Some, None, ℤ}
use Rattle.std.specs.Option.{option_to_list}
use Rattle.std.proofs.lemmas.Bool.{cond-true, cond-false, lt-ltb, le-ltb, le-leb, lt-leb, cases_lt, cases_eq, eq-eqb}
use Rattle.std.proofs.lemmas.Bool.{ne_eqb, ltb-false}
use Rattle.std.proofs.lemmas.List.{length_push, drop-drop, drop_at, nil_from_length}
use Rattle.byteorder.specs.Endian.{little_number}
use Rattle.byteorder.specs.Numbers.{little_from-append}
use Rattle.wav_file.specs.declared.fault.WavFault.{WavFault}
use Rattle.wav_file.specs.declared.fault.WavFault.TheVariants.{BadFormat, NoFormat}
use Rattle.wav_file.specs.declared.field.Field.{Field}
use Rattle.wav_file.specs.declared.field.Field.TheVariants.{Format, Channels, Rate, ByteRate, Align, Bits}
use Rattle.wav_file.specs.declared.part.Part.{Part}
use Rattle.wav_file.specs.declared.part.Part.TheVariants.{Head, Chunk as AtChunk, Format as AtFormat, Data, Failed}
use Rattle.wav_file.specs.declared.rates.Rates.{Rates}
use Rattle.wav_file.specs.Place.{told_place}
use Rattle.wav_file.specs.Chunks.{Chunk, chunk_at, chunks, padded}
use Rattle.wav_file.specs.Format.{number_of, width_of, accepts, field_fault, rate_at_front}
use Rattle.wav_file.specs.Samples.{samples}
use Rattle.wav_file.specs.Reading.{Reading, failed, unless, formatted, unformatted, is_data, is_format, of_data}
use Rattle.wav_file.specs.Reading.{of_format}
use Rattle.wav_file.specs.Held.{Fits, Step, to_part, step_of, after_head, after_chunk_head, after_field, after_data}
use Rattle.wav_file.specs.Held.{after_data_octet, following, next_of, rate_after, rate_from, data_begun, format_begun}
use Rattle.wav_file.specs.Held.{fields_from, widths_from, chunks_reading, head_reading, data_reading, rest_reading}
use Rattle.wav_file.specs.Held.{trailing}
use Rattle.wav_file.proofs.ChunkLemmas.{chunks_whole}

-- what is read by a reader of these rates
module _ (rates : Rates) where
  -- the step keeps the reading of the rest, but for the sample that it gives
  abbrev pub Keeps : ℕ → Part → List ℕ → ℕ → List ℕ → Step → Type 0
  Keeps n part unit octet more step =
      rest_reading rates n part unit (octet ∷ more) ≡ trailing (option_to_list step.sample)
      (rest_reading rates (suc n) step.part step.unit more)

  -- ---- lists and numbers

  drop_later : (count octet : ℕ) (more : List ℕ) → 0 < count → drop count (octet ∷ more) ≡ drop (count - 1) more
  drop_later zero octet more some = absurd (omega arith)
  drop_later (suc count) octet more some = let less : count ≡ suc count - 1 = omega arith in ap (λ n. drop n more) less

  -- ---- choices

  -- a test that both the reading and the part go by
  choose : (b : Bool) (A B : Reading) (P Q : Part) (n : ℕ) (more : List ℕ)
      → (b ≡ true → A ≡ rest_reading rates n P [] more) → (b ≡ false → B ≡ rest_reading rates n Q [] more)
      → cond b A B ≡ rest_reading rates n (cond b P Q) [] more
  choose true A B P Q n more on_true on_false = on_true refl
  choose false A B P Q n more on_true on_false = on_false refl

  -- a fault that comes if a test fails
  passed : (b : Bool) (fault : WavFault) (part : Part) (n : ℕ) (more : List ℕ) (later : Option WavFault)
      (rest : Reading) → unless later rest ≡ rest_reading rates n part [] more
      → unless (cond b later (Some fault)) rest ≡ rest_reading rates n (cond b part (Failed fault)) [] more
  passed true fault part n more later rest same = same
  passed false fault part n more later rest same = refl

  and_true : (b : Bool) → b ≡ (b && true)
  and_true true = refl
  and_true false = refl

  and_false : (b : Bool) → false ≡ (b && false)
  and_false true = refl
  and_false false = refl

  -- ---- the first twelve octets

  head_keeps : (n octet : ℕ) (more : List ℕ) → n < 12 → head_reading rates n (octet ∷ more)
      ≡ rest_reading rates (suc n) (after_head n octet) [] more
  head_keeps zero octet more below = passed (eqb 82 octet) _ Head 1 more _ _ refl
  head_keeps (suc zero) octet more below = passed (eqb 73 octet) _ Head 2 more _ _ refl
  head_keeps (suc (suc zero)) octet more below = passed (eqb 70 octet) _ Head 3 more _ _ refl
  head_keeps (suc (suc (suc zero))) octet more below = passed (eqb 70 octet) _ Head 4 more _ _ refl
  head_keeps (suc (suc (suc (suc zero)))) octet more below = refl
  head_keeps (suc (suc (suc (suc (suc zero))))) octet more below = refl
  head_keeps (suc (suc (suc (suc (suc (suc zero)))))) octet more below = refl
  head_keeps (suc (suc (suc (suc (suc (suc (suc zero))))))) octet more below = refl
  head_keeps (suc (suc (suc (suc (suc (suc (suc (suc zero)))))))) octet more below =
      passed (eqb 87 octet) _ Head 9 more _ _ refl
  head_keeps (suc (suc (suc (suc (suc (suc (suc (suc (suc zero))))))))) octet more below =
      passed (eqb 65 octet) _ Head 10 more _ _ refl
  head_keeps (suc (suc (suc (suc (suc (suc (suc (suc (suc (suc zero)))))))))) octet more below =
      passed (eqb 86 octet) _ Head 11 more _ _ refl
  head_keeps (suc (suc (suc (suc (suc (suc (suc (suc (suc (suc (suc zero))))))))))) octet more below =
      passed (eqb 69 octet) _ (AtChunk None 0) 12 more _ _ refl
  head_keeps (suc (suc (suc (suc (suc (suc (suc (suc (suc (suc (suc (suc n)))))))))))) octet more below =
      absurd (omega arith)

  -- ---- chunks

  -- octets to be skipped
  skip_keeps : (n : ℕ) (rate : Option ℕ) (skip : ℕ) (unit : List ℕ) (octet : ℕ) (more : List ℕ) → 0 < skip
      → Keeps n (AtChunk rate skip) unit octet more (to_part (AtChunk rate (skip - 1)) unit)
  skip_keeps n rate skip unit octet more some =
      let place : n + skip - length unit ≡ suc n + (skip - 1) - length unit = omega arith in
      ap (λ p. chunks_reading rates rate p (unit ++ drop skip (octet ∷ more))) place
      ∙ ap (λ xs. chunks_reading rates rate (suc n + (skip - 1) - length unit) (unit ++ xs))
      (drop_later skip octet more some)

  -- an octet of a head that goes on
  head_goes_on : (n : ℕ) (rate : Option ℕ) (unit : List ℕ) (octet : ℕ) (more : List ℕ)
      → Keeps n (AtChunk rate 0) unit octet more (to_part (AtChunk rate 0) (unit ++ octet ∷ []))
  head_goes_on n rate unit octet more =
      let place : n + 0 - length unit ≡ suc n + 0 - length (unit ++ octet ∷ []) =
      omega (arith, length_push unit octet) in
      ap (λ p. chunks_reading rates rate p (unit ++ octet ∷ more)) place
      ∙ ap (chunks_reading rates rate (suc n + 0 - length (unit ++ octet ∷ [])))
      (sym (append_assoc unit (octet ∷ []) more))

  -- a chunk to be skipped
  other_begins : (rate : Option ℕ) (start size : ℕ) (more : List ℕ)
      → chunks_reading rates rate (start + 8 + padded size) (drop (padded size) more)
      ≡ rest_reading rates (start + 8) (AtChunk rate (padded size)) [] more
  other_begins rate start size more =
      let place : start + 8 + padded size ≡ start + 8 + padded size - 0 = omega arith in
      ap (λ p. chunks_reading rates rate p (drop (padded size) more)) place

  data_begins : (rate start size : ℕ) (name more : List ℕ)
      → of_data (Some rate) (record { place = start; name = name; size = size; trailing = more })
      ≡ rest_reading rates (start + 8) (data_begun (told_place (start + 7)) (Some rate) size) [] more
  data_begins rate start size name more = by_size (ltb size 0x7fff0000)
    where
      by_size : (b : Bool)
          → cond b (record {
            fault = None;
            rate = Some rate;
            heard = samples (take size more);
            whole = leb size (length more);
          }) (record {
            fault = None;
            rate = Some rate;
            heard = samples more;
            whole = true;
          })
          ≡ data_reading rate (cond b (Some size) None) [] more
      by_size true = refl
      by_size false = refl

  format_begins : (start size : ℕ) (name more : List ℕ)
      → of_format rates (record { place = start; name = name; size = size; trailing = more })
      (chunks (start + 8 + padded size) (drop (padded size) more))
      ≡ rest_reading rates (start + 8) (format_begun (told_place (start + 7)) size) [] more
  format_begins start size name more =
      choose (ltb size 16) _ _ (Failed (NoFormat (told_place (start + 7)))) (AtFormat Format 0 (padded size - 16))
      (start + 8) more (λ e. refl) (λ e. fits (ltb-false size 16 e))
    where
      fits : 16 ≤ size
          → unless (field_fault rates (fields_from Format) (start + 8) more)
          (formatted (rate_at_front more) (chunks (start + 8 + padded size) (drop (padded size) more)))
          ≡ rest_reading rates (start + 8) (AtFormat Format 0 (padded size - 16)) [] more
      fits least =
          let first : start + 8 ≡ start + 8 - 0 = omega arith in
          let place : start + 8 + padded size ≡ start + 8 + (16 - 0) + (padded size - 16) = omega arith in
          let count : padded size ≡ 16 - 0 + (padded size - 16) = omega arith in
          ap (λ p. unless (field_fault rates (fields_from Format) p more)
          (formatted (rate_at_front more) (chunks (start + 8 + padded size) (drop (padded size) more)))) first
          ∙ ap (λ p. unless (field_fault rates (fields_from Format) (start + 8 - 0) more)
          (formatted (rate_at_front more) (chunks p (drop (padded size) more)))) place
          ∙ ap (λ k. unless (field_fault rates (fields_from Format) (start + 8 - 0) more)
          (formatted (rate_at_front more) (chunks (start + 8 + (16 - 0) + (padded size - 16)) (drop k more)))) count

  -- a head of eight octets ends
  head_ends : (rate : Option ℕ) (start : ℕ) (unit more : List ℕ) → length unit ≡ 8
      → chunks_reading rates rate start (unit ++ more)
      ≡ rest_reading rates (start + 8) (after_chunk_head (told_place (start + 7)) rate (take 4 unit)
      (little_number 4 (drop 4 unit))) [] more
  head_ends None start (a ∷ b ∷ c ∷ d ∷ e ∷ f ∷ g ∷ h ∷ []) more eight =
      let octets : List ℕ = a ∷ b ∷ c ∷ d ∷ e ∷ f ∷ g ∷ h ∷ more in
      let chunk : Chunk = chunk_at start octets in
      let others : List Chunk = chunks (start + 8 + padded chunk.size) (drop (padded chunk.size) more) in
      let P : Part = after_chunk_head (told_place (start + 7)) None chunk.name chunk.size in
      let unsorted : Part = cond (is_format chunk) (format_begun (told_place (start + 7)) chunk.size)
      (AtChunk None (padded chunk.size)) in
      ap (unformatted rates) (chunks_whole start octets (omega arith))
      ∙ choose (is_data chunk) (failed (NoFormat (told_place (start + 7))))
      (cond (is_format chunk) (of_format rates chunk others) (unformatted rates others))
      (data_begun (told_place (start + 7)) None chunk.size) unsorted (start + 8) more (λ t. refl)
      (λ t. choose (is_format chunk) (of_format rates chunk others) (unformatted rates others)
      (format_begun (told_place (start + 7)) chunk.size) (AtChunk None (padded chunk.size)) (start + 8) more
      (λ u. format_begins start chunk.size chunk.name more) (λ u. other_begins None start chunk.size more))
      ∙ ap (λ test. rest_reading rates (start + 8) (cond (is_data chunk)
      (data_begun (told_place (start + 7)) None chunk.size)
      (cond test (format_begun (told_place (start + 7)) chunk.size) (AtChunk None (padded chunk.size)))) [] more)
      (and_true (is_format chunk))
  head_ends (Some rate) start (a ∷ b ∷ c ∷ d ∷ e ∷ f ∷ g ∷ h ∷ []) more eight =
      let octets : List ℕ = a ∷ b ∷ c ∷ d ∷ e ∷ f ∷ g ∷ h ∷ more in
      let chunk : Chunk = chunk_at start octets in
      let others : List Chunk = chunks (start + 8 + padded chunk.size) (drop (padded chunk.size) more) in
      ap (formatted (Some rate)) (chunks_whole start octets (omega arith))
      ∙ choose (is_data chunk) (of_data (Some rate) chunk) (formatted (Some rate) others)
      (data_begun (told_place (start + 7)) (Some rate) chunk.size) (AtChunk (Some rate) (padded chunk.size))
      (start + 8) more
      (λ t. data_begins rate start chunk.size chunk.name more) (λ t. other_begins (Some rate) start chunk.size more)
      ∙ ap (λ test. rest_reading rates (start + 8) (cond (is_data chunk)
      (data_begun (told_place (start + 7)) (Some rate) chunk.size)
      (cond test (format_begun (told_place (start + 7)) chunk.size) (AtChunk (Some rate) (padded chunk.size)))) []
      more)
      (and_false (is_format chunk))
  head_ends rate start unit more eight = absurd (omega (arith, eight))

  -- an octet of a head that ends it
  head_full : (n : ℕ) (rate : Option ℕ) (unit : List ℕ) (octet : ℕ) (more : List ℕ) → length unit ≡ 7 → length unit ≤ n
      → Keeps n (AtChunk rate 0) unit octet more
      (to_part (after_chunk_head (told_place n) rate (take 4 (unit ++ octet ∷ []))
      (little_number 4 (drop 4 (unit ++ octet ∷ [])))) [])
  head_full n rate unit octet more seven enough =
      let u : List ℕ = unit ++ octet ∷ [] in
      let first : n + 0 - length unit ≡ n - 7 = omega arith in
      let last : n - 7 + 7 ≡ n = omega arith in
      let next : n - 7 + 8 ≡ suc n = omega arith in
      let eight : length u ≡ 8 = omega (arith, length_push unit octet) in
      ap (λ p. chunks_reading rates rate p (unit ++ octet ∷ more)) first
      ∙ ap (chunks_reading rates rate (n - 7)) (sym (append_assoc unit (octet ∷ []) more))
      ∙ head_ends rate (n - 7) u more eight
      ∙ ap (λ m. rest_reading rates m (after_chunk_head (told_place (n - 7 + 7)) rate (take 4 u)
      (little_number 4 (drop 4 u))) [] more) next
      ∙ ap (λ m. rest_reading rates (suc n) (after_chunk_head (told_place m) rate (take 4 u)
      (little_number 4 (drop 4 u))) [] more) last

  chunk_keeps : (n : ℕ) (rate : Option ℕ) (skip : ℕ) (unit : List ℕ) (octet : ℕ) (more : List ℕ) → length unit < 8
      → length unit ≤ n
      → Keeps n (AtChunk rate skip) unit octet more (step_of rates (told_place n) (AtChunk rate skip) unit octet)
  chunk_keeps n rate skip unit octet more few enough =
      let K : Step → Type 0 = Keeps n (AtChunk rate skip) unit octet more in
      elim (cases_lt 0 skip) [
        | inl some ↦ subst K (sym (cond-true _ _ _ (lt-ltb 0 skip some))) (skip_keeps n rate skip unit octet more some)
        | inr none ↦ subst K (sym (cond-false _ _ _ (le-ltb 0 skip none))) (at_head (omega arith))
      ]
    where
      Z : Step → Type 0
      Z step = Keeps n (AtChunk rate 0) unit octet more step

      full : Step
      full = to_part (after_chunk_head (told_place n) rate (take 4 (unit ++ octet ∷ []))
          (little_number 4 (drop 4 (unit ++ octet ∷ [])))) []

      step : Step
      step = cond (ltb (length unit) 7) (to_part (AtChunk rate 0) (unit ++ octet ∷ [])) full

      at_zero : Z step
      at_zero =
          elim (cases_lt (length unit) 7) [
            | inl going ↦ subst Z (sym (cond-true _ _ _ (lt-ltb (length unit) 7 going)))
                (head_goes_on n rate unit octet more)
            | inr least ↦ subst Z (sym (cond-false _ _ _ (le-ltb (length unit) 7 least)))
                (head_full n rate unit octet more (omega arith) enough)
          ]

      at_head : 0 ≡ skip → Keeps n (AtChunk rate skip) unit octet more step
      at_head zero_is = let P : ℕ → Type 0 = λ k. Keeps n (AtChunk rate k) unit octet more step in
          subst P zero_is at_zero

  -- ---- the format

  abbrev fields_after : Option Field → List Field
  fields_after None = []
  fields_after (Some field) = fields_from field

  fields_split : (field : Field) → fields_from field ≡ field ∷ fields_after (next_of field)
  fields_split Format = refl
  fields_split Channels = refl
  fields_split Rate = refl
  fields_split ByteRate = refl
  fields_split Align = refl
  fields_split Bits = refl

  pub width_le : (field : Field) → (0 < width_of field) × (width_of field ≤ widths_from field)
  width_le Format = (omega arith, omega arith)
  width_le Channels = (omega arith, omega arith)
  width_le Rate = (omega arith, omega arith)
  width_le ByteRate = (omega arith, omega arith)
  width_le Align = (omega arith, omega arith)
  width_le Bits = (omega arith, omega arith)

  -- a field that is whole
  pub field_whole : (field : Field) (others : List Field) (place : ℕ) (unit more : List ℕ)
      → length unit ≡ width_of field
      → field_fault rates (field ∷ others) place (unit ++ more)
      ≡ cond (accepts rates field (little_number (width_of field) unit))
      (field_fault rates others (place + width_of field) more)
      (Some (BadFormat (told_place (place + width_of field - 1)) (number_of field)
      (little_number (width_of field) unit)))
  field_whole field others place unit more whole =
      let w : ℕ = width_of field in
      let value : little_number w (unit ++ more) ≡ little_number w unit =
      little_from-append w unit more (omega arith) in
      cond-false _ _ _ (le-ltb (length (unit ++ more)) w (omega (arith, length-append unit more)))
      ∙ ap (λ v. cond (accepts rates field v) (field_fault rates others (place + w) (drop w (unit ++ more)))
      (Some (BadFormat (told_place (place + w - 1)) (number_of field) v))) value
      ∙ ap (λ xs. cond (accepts rates field (little_number w unit)) (field_fault rates others (place + w) xs)
      (Some (BadFormat (told_place (place + w - 1)) (number_of field) (little_number w unit))))
      (drop_at unit more w whole)

  -- the reading from a field on, if so many octets of the fields are still to come
  abbrev from_fields : Option ℕ → List Field → ℕ → List ℕ → ℕ → ℕ → List ℕ → Reading
  from_fields rate others first octets place count more =
      unless (field_fault rates others first octets) (formatted rate (chunks place (drop count more)))

  to_field : (field : Field) (rate first place skip : ℕ) (more : List ℕ) → place ≡ first + widths_from field + skip
      → from_fields (rate_from field rate more) (fields_from field) first more place (widths_from field + skip) more
      ≡ rest_reading rates first (AtFormat field rate skip) [] more
  to_field field rate first place skip more e =
      let told : Option ℕ = rate_from field rate more in
      let start : first ≡ first - 0 = omega arith in
      let later : place ≡ first + (widths_from field - 0) + skip = omega arith in
      let count : widths_from field + skip ≡ widths_from field - 0 + skip = omega arith in
      ap (λ f. from_fields told (fields_from field) f more place (widths_from field + skip) more) start
      ∙ ap (λ p. from_fields told (fields_from field) (first - 0) more p (widths_from field + skip) more) later
      ∙ ap (λ k. from_fields told (fields_from field) (first - 0) more (first + (widths_from field - 0) + skip) k more)
      count

  -- the rate that fields tell is told by those after the first, and the first
  abbrev rate_following : Option Field → ℕ → List ℕ → Option ℕ
  rate_following (Some field) rate more = rate_from field rate more
  rate_following None rate more = Some rate

  -- two tests whether octets are enough, with the same octets to spare
  same_told : (have want others rest first second : ℕ) → have + rest ≡ others + want → first ≡ second
      → cond (ltb have want) None (Some first) ≡ cond (ltb others rest) None (Some second)
  same_told have want others rest first second spare same =
      elim (cases_lt have want) [
        | inl few ↦ cond-true _ _ _ (lt-ltb have want few) ∙ sym (cond-true _ _ _ (lt-ltb others rest (omega arith)))
        | inr least ↦ cond-false _ _ _ (le-ltb have want least) ∙ ap Some same
            ∙ sym (cond-false _ _ _ (le-ltb others rest (omega arith)))
      ]

  rate_split : (field : Field) (rate : ℕ) (unit more : List ℕ) → length unit ≡ width_of field
      → rate_from field rate (unit ++ more) ≡ rate_following (next_of field)
      (rate_after field rate (little_number (width_of field) unit)) more
  rate_split Format rate unit more whole =
      let gone : drop 2 (unit ++ more) ≡ more = drop_at unit more 2 whole in
      same_told (length (unit ++ more)) 16 (length more) 14 _ _ (omega (arith, length-append unit more, whole))
      (ap (little_number 4) (sym (drop-drop 2 2 (unit ++ more)) ∙ ap (drop 2) gone))
  rate_split Channels rate unit more whole =
      same_told (length (unit ++ more)) 14 (length more) 12 _ _ (omega (arith, length-append unit more, whole))
      (ap (little_number 4) (drop_at unit more 2 whole))
  rate_split Rate rate unit more whole =
      same_told (length (unit ++ more)) 12 (length more) 8 _ _ (omega (arith, length-append unit more, whole))
      (little_from-append 4 unit more (omega (arith, whole)))
  rate_split ByteRate rate unit more whole = same_told (length (unit ++ more)) 8 (length more) 4 _ _
      (omega (arith, length-append unit more, whole)) refl
  rate_split Align rate unit more whole = same_told (length (unit ++ more)) 4 (length more) 2 _ _
      (omega (arith, length-append unit more, whole)) refl
  rate_split Bits rate unit more whole = cond-false _ _ _
      (le-ltb (length (unit ++ more)) 2 (omega (arith, length-append unit more, whole)))

  -- after a field
  following_keeps : (field : Field) (rate start skip : ℕ) (more : List ℕ)
      → from_fields (rate_following (next_of field) rate more) (fields_after (next_of field)) (start + width_of field) more
      (start + widths_from field + skip) (widths_from field - width_of field + skip) more
      ≡ rest_reading rates (start + width_of field) (following (next_of field) rate skip) [] more
  following_keeps Format rate start skip more = to_field Channels rate (start + 2) (start + 16 + skip) skip more
      (omega arith)
  following_keeps Channels rate start skip more = to_field Rate rate (start + 2) (start + 14 + skip) skip more
      (omega arith)
  following_keeps Rate rate start skip more = to_field ByteRate rate (start + 4) (start + 12 + skip) skip more
      (omega arith)
  following_keeps ByteRate rate start skip more = to_field Align rate (start + 4) (start + 8 + skip) skip more
      (omega arith)
  following_keeps Align rate start skip more = to_field Bits rate (start + 2) (start + 4 + skip) skip more (omega arith)
  following_keeps Bits rate start skip more =
      let place : start + 2 + skip ≡ start + 2 + skip - 0 = omega arith in
      ap (λ k. formatted (Some rate) (chunks (start + 2 + skip) (drop k more))) (zero-add skip)
      ∙ ap (λ p. chunks_reading rates (Some rate) p (drop skip more)) place

  -- a field ends
  field_ends : (field : Field) (rate start skip : ℕ) (unit more : List ℕ) → length unit ≡ width_of field
      → from_fields (rate_from field rate (unit ++ more)) (fields_from field) start (unit ++ more)
      (start + widths_from field + skip) (widths_from field - width_of field + skip) more
      ≡ rest_reading rates (start + width_of field) (after_field rates (told_place (start + width_of field - 1))
      field rate skip (little_number (width_of field) unit)) [] more
  field_ends field rate start skip unit more whole =
      let w : ℕ = width_of field in
      let value : ℕ = little_number w unit in
      let place : ℕ = start + widths_from field + skip in
      let count : ℕ = widths_from field - w + skip in
      let after : ℕ = rate_after field rate value in
      let rest : Reading = formatted (rate_following (next_of field) after more) (chunks place (drop count more)) in
      ap (λ told. from_fields told (fields_from field) start (unit ++ more) place count more)
      (rate_split field rate unit more whole)
      ∙ ap (λ fs. unless (field_fault rates fs start (unit ++ more)) rest) (fields_split field)
      ∙ ap (λ fault. unless fault rest) (field_whole field (fields_after (next_of field)) start unit more whole)
      ∙ passed (accepts rates field value) (BadFormat (told_place (start + w - 1)) (number_of field) value)
      (following (next_of field) after skip) (start + w) more
      (field_fault rates (fields_after (next_of field)) (start + w) more) rest
      (following_keeps field after start skip more)

  -- an octet of a field that goes on
  field_goes_on : (n : ℕ) (field : Field) (rate skip : ℕ) (unit : List ℕ) (octet : ℕ) (more : List ℕ)
      → length unit < width_of field
      → Keeps n (AtFormat field rate skip) unit octet more (to_part (AtFormat field rate skip) (unit ++ octet ∷ []))
  field_goes_on n field rate skip unit octet more few =
      let u : List ℕ = unit ++ octet ∷ [] in
      let total : ℕ = widths_from field in
      let longer : length u ≡ length unit + 1 = length_push unit octet in
      let room : (0 < width_of field) × (width_of field ≤ total) = width_le field in
      let first : n - length unit ≡ suc n - length u = omega arith in
      let place : n + (total - length unit) + skip ≡ suc n + (total - length u) + skip = omega (arith, room.1) in
      let count : total - length unit + skip - 1 ≡ total - length u + skip = omega (arith, room.1) in
      let some : 0 < total - length unit + skip = omega (arith, room.1) in
      let told : Option ℕ = rate_from field rate (u ++ more) in
      ap (λ xs. from_fields (rate_from field rate xs) (fields_from field) (n - length unit) xs
      (n + (total - length unit) + skip) (total - length unit + skip) (octet ∷ more))
      (sym (append_assoc unit (octet ∷ []) more))
      ∙ ap (λ f. from_fields told (fields_from field) f (u ++ more) (n + (total - length unit) + skip)
      (total - length unit + skip) (octet ∷ more)) first
      ∙ ap (λ p. from_fields told (fields_from field) (suc n - length u) (u ++ more) p (total - length unit + skip)
      (octet ∷ more)) place
      ∙ ap (λ xs. unless (field_fault rates (fields_from field) (suc n - length u) (u ++ more))
      (formatted told (chunks (suc n + (total - length u) + skip) xs)))
      (drop_later (total - length unit + skip) octet more some ∙ ap (λ k. drop k more) count)

  -- an octet of a field that ends it
  field_full : (n : ℕ) (field : Field) (rate skip : ℕ) (unit : List ℕ) (octet : ℕ) (more : List ℕ)
      → length unit + 1 ≡ width_of field → length unit ≤ n
      → Keeps n (AtFormat field rate skip) unit octet more
      (to_part (after_field rates (told_place n) field rate skip
      (little_number (width_of field) (unit ++ octet ∷ []))) [])
  field_full n field rate skip unit octet more last enough =
      let u : List ℕ = unit ++ octet ∷ [] in
      let w : ℕ = width_of field in
      let total : ℕ = widths_from field in
      let start : ℕ = n - length unit in
      let longer : length u ≡ length unit + 1 = length_push unit octet in
      let room : (0 < w) × (w ≤ total) = width_le field in
      let place : n + (total - length unit) + skip ≡ start + total + skip = omega (arith, room.1) in
      let count : total - length unit + skip - 1 ≡ total - w + skip = omega (arith, room.1) in
      let some : 0 < total - length unit + skip = omega (arith, room.1) in
      let next : start + w ≡ suc n = omega arith in
      let at : start + w - 1 ≡ n = omega arith in
      let told : Option ℕ = rate_from field rate (u ++ more) in
      ap (λ xs. from_fields (rate_from field rate xs) (fields_from field) start xs (n + (total - length unit) + skip)
      (total - length unit + skip) (octet ∷ more)) (sym (append_assoc unit (octet ∷ []) more))
      ∙ ap (λ p. from_fields told (fields_from field) start (u ++ more) p (total - length unit + skip) (octet ∷ more))
      place
      ∙ ap (λ xs. unless (field_fault rates (fields_from field) start (u ++ more))
      (formatted told (chunks (start + total + skip) xs)))
      (drop_later (total - length unit + skip) octet more some ∙ ap (λ k. drop k more) count)
      ∙ field_ends field rate start skip u more (omega arith)
      ∙ ap (λ m. rest_reading rates m (after_field rates (told_place (start + w - 1)) field rate skip
      (little_number w u)) [] more) next
      ∙ ap (λ m. rest_reading rates (suc n) (after_field rates (told_place m) field rate skip (little_number w u)) []
      more) at

  format_keeps : (n : ℕ) (field : Field) (rate skip : ℕ) (unit : List ℕ) (octet : ℕ) (more : List ℕ)
      → length unit < width_of field → length unit ≤ n
      → Keeps n (AtFormat field rate skip) unit octet more
      (step_of rates (told_place n) (AtFormat field rate skip) unit octet)
  format_keeps n field rate skip unit octet more few enough =
      let K : Step → Type 0 = Keeps n (AtFormat field rate skip) unit octet more in
      elim (cases_lt (length unit + 1) (width_of field)) [
        | inl going ↦ subst K (sym (cond-true _ _ _ (lt-ltb (length unit + 1) (width_of field) going)))
            (field_goes_on n field rate skip unit octet more few)
        | inr least ↦ subst K (sym (cond-false _ _ _ (le-ltb (length unit + 1) (width_of field) least)))
            (field_full n field rate skip unit octet more (omega arith) enough)
      ]

  -- ---- the data

  leb_later : (j m : ℕ) → leb (suc j) (suc m) ≡ leb (suc j - 1) m
  leb_later j m =
      elim (cases_lt m j) [
        | inl past ↦ lt-leb (suc j) (suc m) (omega arith) ∙ sym (lt-leb (suc j - 1) m (omega arith))
        | inr within ↦ le-leb (suc j) (suc m) (omega arith) ∙ sym (le-leb (suc j - 1) m (omega arith))
      ]

  data_octet_keeps : (rate n left : ℕ) (low : Option ℕ) (unit : List ℕ) (octet : ℕ) (more : List ℕ) → 0 < left
      → data_reading rate (Some left) (option_to_list low) (octet ∷ more)
      ≡ trailing (option_to_list (after_data_octet rate (Some (left - 1)) low octet).1)
      (rest_reading rates (suc n) (after_data_octet rate (Some (left - 1)) low octet).0 unit more)
  data_octet_keeps rate n zero low unit octet more some = absurd (omega arith)
  data_octet_keeps rate n (suc left) None unit octet more some =
      let less : left ≡ suc left - 1 = omega arith in
      ap (λ k. record {
        fault = None;
        rate = Some rate;
        heard = samples (octet ∷ take k more);
        whole = leb (suc left) (length (octet ∷ more));
      }) less
      ∙ ap (λ b. record {
        fault = None;
        rate = Some rate;
        heard = samples (octet ∷ take (suc left - 1) more);
        whole = b;
      }) (leb_later left (length more))
  data_octet_keeps rate n (suc left) (Some low) unit octet more some =
      let less : left ≡ suc left - 1 = omega arith in
      ap (λ k. record {
        fault = None;
        rate = Some rate;
        heard = samples (low ∷ octet ∷ take k more);
        whole = leb (suc left) (length (octet ∷ more));
      }) less
      ∙ ap (λ b. record {
        fault = None;
        rate = Some rate;
        heard = samples (low ∷ octet ∷ take (suc left - 1) more);
        whole = b;
      }) (leb_later left (length more))

  data_ended : (rate octet : ℕ) (low more : List ℕ) → data_reading rate (Some 0) low (octet ∷ more)
      ≡ data_reading rate (Some 0) low more
  data_ended rate octet low more =
      ap (λ b. record { fault = None; rate = Some rate; heard = samples (low ++ []); whole = b })
      (le-leb 0 (length (octet ∷ more)) (omega arith) ∙ sym (le-leb 0 (length more) (omega arith)))

  data_keeps : (rate n : ℕ) (left low : Option ℕ) (unit : List ℕ) (octet : ℕ) (more : List ℕ)
      → data_reading rate left (option_to_list low) (octet ∷ more)
      ≡ trailing (option_to_list (after_data rate left low octet).1)
      (rest_reading rates (suc n) (after_data rate left low octet).0 unit more)
  data_keeps rate n None None unit octet more = refl
  data_keeps rate n None (Some low) unit octet more = refl
  data_keeps rate n (Some left) low unit octet more =
      elim (cases_eq left 0) [
        | inl none ↦ subst K (sym (cond-true _ _ _ (eq-eqb left 0 none))) (ended (omega arith))
        | inr some ↦ subst K (sym (cond-false _ _ _ (ne_eqb left 0 some)))
            (data_octet_keeps rate n left low unit octet more (omega arith))
      ]
    where
      K : Part × Option ℤ → Type 0
      K p = data_reading rate (Some left) (option_to_list low) (octet ∷ more)
          ≡ trailing (option_to_list p.1) (rest_reading rates (suc n) p.0 unit more)

      ended : 0 ≡ left → K (Data rate (Some left) low, None)
      ended e =
          let P : ℕ → Type 0 = λ k. data_reading rate (Some k) (option_to_list low) (octet ∷ more)
          ≡ data_reading rate (Some k) (option_to_list low) more in
          subst P e (data_ended rate octet (option_to_list low) more)

  -- ---- every part

  -- The step that an octet makes keeps the reading of the rest.
  pub step_keeps : (n place : ℕ) (part : Part) (unit : List ℕ) (octet : ℕ) (more : List ℕ) → place ≡ told_place n
      → Fits place part unit → length unit ≤ n
      → Keeps n part unit octet more (step_of rates place part unit octet)
  step_keeps n place Head unit octet more named fits enough =
      let count : n ≡ place = omega (arith, fits.0) in
      let none : [] ≡ unit = sym (nil_from_length unit (omega (arith, fits.1))) in
      let P : ℕ → Type 0 = λ p. head_reading rates n (octet ∷ more)
      ≡ rest_reading rates (suc n) (after_head p octet) [] more in
      let Q : List ℕ → Type 0 = λ u. head_reading rates n (octet ∷ more)
      ≡ rest_reading rates (suc n) (after_head place octet) u more in
      subst Q none (subst P count (head_keeps n octet more (omega (arith, fits.0))))
  step_keeps n place (AtChunk rate skip) unit octet more named fits enough =
      let P : ℕ → Type 0 = λ p. Keeps n (AtChunk rate skip) unit octet more
      (step_of rates p (AtChunk rate skip) unit octet) in
      subst P (sym named) (chunk_keeps n rate skip unit octet more fits enough)
  step_keeps n place (AtFormat field rate skip) unit octet more named fits enough =
      let P : ℕ → Type 0 = λ p. Keeps n (AtFormat field rate skip) unit octet more
      (step_of rates p (AtFormat field rate skip) unit octet) in
      subst P (sym named) (format_keeps n field rate skip unit octet more fits enough)
  step_keeps n place (Data rate left low) unit octet more named fits enough = data_keeps rate n left low unit octet more
  step_keeps n place (Failed fault) unit octet more named fits enough = refl

  -- ---- the octets of a head or a field

  cond_grows : (b : Bool) (P Q : Step) (most : ℕ) → length P.unit ≤ most → length Q.unit ≤ most
      → length (cond b P Q).unit ≤ most
  cond_grows true P Q most first second = first
  cond_grows false P Q most first second = second

  -- A step keeps at most one octet more.
  pub unit_grows : (place : ℕ) (part : Part) (unit : List ℕ) (octet : ℕ)
      → length (step_of rates place part unit octet).unit ≤ length unit + 1
  unit_grows place Head unit octet = omega arith
  unit_grows place (AtChunk rate skip) unit octet =
      cond_grows (ltb 0 skip) _ _ (length unit + 1) (omega arith)
      (cond_grows (ltb (length unit) 7) _ _ (length unit + 1) (omega (arith, length_push unit octet)) (omega arith))
  unit_grows place (AtFormat field rate skip) unit octet =
      cond_grows (ltb (length unit + 1) (width_of field)) _ _ (length unit + 1) (omega (arith, length_push unit octet))
      (omega arith)
  unit_grows place (Data rate left low) unit octet = omega arith
  unit_grows place (Failed fault) unit octet = omega arith
