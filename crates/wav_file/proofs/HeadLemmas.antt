-- What stands after a written head are samples.
use Rattle.std.proofs.Common.{◌≡◌, ℕ, Option, Some, ◌+◌, ◌<◌, ◌≤◌, ◌^◌, leb, ltb, cond, Bool, true, false, List, []}
use Rattle.std.proofs.Common.{◌∷◌, ◌++◌, length, take, drop, refl, ap, ◌∙◌, arith, None, Ok}
use Rattle.std.proofs.lemmas.Bool.{cond-false, le-leb, le-ltb}
use Rattle.std.proofs.lemmas.List.{take_all}
use Rattle.byteorder.specs.Endian.{little_bytes}
use Rattle.byteorder.specs.Numbers.{little_number-reads_back}
use Rattle.wav_file.specs.declared.field.Field.TheVariants.{Format, Channels, Rate, ByteRate, Align, Bits}
use Rattle.wav_file.specs.declared.rates.Rates.{Rates}
use Rattle.wav_file.specs.declared.rates.Rates.TheVariants.{Narrow, NarrowOrWide}
use Rattle.wav_file.specs.Place.{told_place}
use Rattle.wav_file.specs.Chunks.{Chunk, chunk_at, chunks, padded}
use Rattle.wav_file.specs.Format.{fields, field_fault, rate_at_front}
use Rattle.wav_file.specs.Samples.{samples}
use Rattle.wav_file.specs.Reading.{Reading, unless, unformatted, of_data, reading, verdict_on, verdict_of}
use Rattle.wav_file.specs.Head.{format_octets, head_before}
use Rattle.wav_file.proofs.ChunkLemmas.{chunks_whole}
use Rattle.wav_file.proofs.StepLemmas.{field_whole}

-- the format that is written is the one that is read
format_right : (rates : Rates) (place : ℕ) (more : List ℕ)
    → field_fault rates fields place (format_octets ++ more) ≡ None
format_right Narrow place more =
    field_whole Narrow Format (Channels ∷ Rate ∷ ByteRate ∷ Align ∷ Bits ∷ []) place (1 ∷ 0 ∷ [])
    (1 ∷ 0 ∷ 128 ∷ 37 ∷ 0 ∷ 0 ∷ 0 ∷ 75 ∷ 0 ∷ 0 ∷ 2 ∷ 0 ∷ 16 ∷ 0 ∷ more) refl
    ∙ field_whole Narrow Channels (Rate ∷ ByteRate ∷ Align ∷ Bits ∷ []) (place + 2) (1 ∷ 0 ∷ [])
    (128 ∷ 37 ∷ 0 ∷ 0 ∷ 0 ∷ 75 ∷ 0 ∷ 0 ∷ 2 ∷ 0 ∷ 16 ∷ 0 ∷ more) refl
    ∙ field_whole Narrow Rate (ByteRate ∷ Align ∷ Bits ∷ []) (place + 2 + 2) (128 ∷ 37 ∷ 0 ∷ 0 ∷ [])
    (0 ∷ 75 ∷ 0 ∷ 0 ∷ 2 ∷ 0 ∷ 16 ∷ 0 ∷ more) refl
    ∙ field_whole Narrow ByteRate (Align ∷ Bits ∷ []) (place + 2 + 2 + 4) (0 ∷ 75 ∷ 0 ∷ 0 ∷ []) (2 ∷ 0 ∷ 16 ∷ 0 ∷ more)
    refl
    ∙ field_whole Narrow Align (Bits ∷ []) (place + 2 + 2 + 4 + 4) (2 ∷ 0 ∷ []) (16 ∷ 0 ∷ more) refl
    ∙ field_whole Narrow Bits [] (place + 2 + 2 + 4 + 4 + 2) (16 ∷ 0 ∷ []) more refl
format_right NarrowOrWide place more =
    field_whole NarrowOrWide Format (Channels ∷ Rate ∷ ByteRate ∷ Align ∷ Bits ∷ []) place (1 ∷ 0 ∷ [])
    (1 ∷ 0 ∷ 128 ∷ 37 ∷ 0 ∷ 0 ∷ 0 ∷ 75 ∷ 0 ∷ 0 ∷ 2 ∷ 0 ∷ 16 ∷ 0 ∷ more) refl
    ∙ field_whole NarrowOrWide Channels (Rate ∷ ByteRate ∷ Align ∷ Bits ∷ []) (place + 2) (1 ∷ 0 ∷ [])
    (128 ∷ 37 ∷ 0 ∷ 0 ∷ 0 ∷ 75 ∷ 0 ∷ 0 ∷ 2 ∷ 0 ∷ 16 ∷ 0 ∷ more) refl
    ∙ field_whole NarrowOrWide Rate (ByteRate ∷ Align ∷ Bits ∷ []) (place + 2 + 2) (128 ∷ 37 ∷ 0 ∷ 0 ∷ [])
    (0 ∷ 75 ∷ 0 ∷ 0 ∷ 2 ∷ 0 ∷ 16 ∷ 0 ∷ more) refl
    ∙ field_whole NarrowOrWide ByteRate (Align ∷ Bits ∷ []) (place + 2 + 2 + 4) (0 ∷ 75 ∷ 0 ∷ 0 ∷ [])
    (2 ∷ 0 ∷ 16 ∷ 0 ∷ more) refl
    ∙ field_whole NarrowOrWide Align (Bits ∷ []) (place + 2 + 2 + 4 + 4) (2 ∷ 0 ∷ []) (16 ∷ 0 ∷ more) refl
    ∙ field_whole NarrowOrWide Bits [] (place + 2 + 2 + 4 + 4 + 2) (16 ∷ 0 ∷ []) more refl

-- and its rate is 9600
rate_right : (more : List ℕ) → rate_at_front (format_octets ++ more) ≡ Some 9600
rate_right more = cond-false _ _ _ (le-ltb (length (format_octets ++ more)) 16 (omega arith))

-- a data chunk that no more octets follow than its size tells
data_heard : (rate : Option ℕ) (size : ℕ) (octets : List ℕ) → length octets ≤ size
    → of_data rate (record { place = 36; name = 100 ∷ 97 ∷ 116 ∷ 97 ∷ []; size = size; trailing = octets })
    ≡ record {
      fault = None;
      rate = rate;
      heard = samples octets;
      whole = cond (ltb size 0x7fff0000) (leb size (length octets)) true;
    }
data_heard rate size octets few = by_size (ltb size 0x7fff0000)
  where
    by_size : (b : Bool)
        → cond b (record {
          fault = None;
          rate = rate;
          heard = samples (take size octets);
          whole = leb size (length octets);
        }) (record {
          fault = None;
          rate = rate;
          heard = samples octets;
          whole = true;
        })
        ≡ let r : Reading = record {
          fault = None;
          rate = rate;
          heard = samples octets;
          whole = cond b (leb size (length octets)) true;
        } in r
    by_size true = ap (λ xs. record { fault = None; rate = rate; heard = samples xs; whole = leb size (length octets) })
        (take_all size octets few)
    by_size false = refl

-- The octets after a head are read as its samples.
pub head_reads : (rates : Rates) (size : ℕ) (octets : List ℕ) → size < 2 ^ 32 → length octets ≤ size
    → reading rates (head_before size ++ octets) ≡ record {
      fault = None;
      rate = Some 9600;
      heard = samples octets;
      whole = cond (ltb size 0x7fff0000) (leb size (length octets)) true;
    }
unfolding reading head_before
head_reads rates size octets fits few =
    let data_part : List ℕ = 100 ∷ 97 ∷ 116 ∷ 97 ∷ (little_bytes 4 size ++ octets) in
    let after_riff : List ℕ = 102 ∷ 109 ∷ 116 ∷ 32 ∷ 16 ∷ 0 ∷ 0 ∷ 0 ∷ (format_octets ++ data_part) in
    let data_chunk : Chunk = chunk_at 36 data_part in
    let rest : List Chunk = chunks (36 + 8 + padded data_chunk.size) (drop (padded data_chunk.size) octets) in
    let format_chunk : Chunk = chunk_at 12 after_riff in
    let told : data_chunk.size ≡ size = little_number-reads_back 4 size octets fits in
    ap (unformatted rates) (chunks_whole 12 after_riff (omega arith))
    ∙ ap (λ others. unformatted rates (format_chunk ∷ others)) (chunks_whole 36 data_part (omega arith))
    ∙ ap (λ rate. unless (field_fault rates fields 20 (format_octets ++ data_part)) (of_data rate data_chunk))
    (rate_right data_part)
    ∙ ap (λ fault. unless fault (of_data (Some 9600) data_chunk)) (format_right rates 20 data_part)
    ∙ ap (λ n. of_data (Some 9600) (record { place = 36; name = 100 ∷ 97 ∷ 116 ∷ 97 ∷ []; size = n; trailing = octets }))
    told
    ∙ data_heard (Some 9600) size octets few

-- and the file is whole after all of them
pub head_whole : (rates : Rates) (size : ℕ) (octets : List ℕ) → size < 2 ^ 32 → length octets ≡ size
    → verdict_of rates (head_before size ++ octets) ≡ Ok tt
head_whole rates size octets fits all =
    let read = head_reads rates size octets fits (omega (arith, all)) in
    let place : ℕ = told_place (length (head_before size ++ octets)) in
    ap (λ (r : Reading). verdict_on place r.fault r.whole) read ∙ by_size place (ltb size 0x7fff0000)
  where
    by_size : (place : ℕ) (b : Bool) → verdict_on place None (cond b (leb size (length octets)) true) ≡ Ok tt
    by_size place true = ap (verdict_on place None) (le-leb size (length octets) (omega (arith, all)))
    by_size place false = refl
