-- Whole samples of the data, many at once: what is kept after them stands for all octets so far.
use Rattle.std.proofs.Common.{◌≡◌, ℕ, zero, suc, ◌+◌, ◌-◌, ◌%◌, ◌≤◌, leb, true, List, [], ◌∷◌, ◌++◌, length, take, refl, ap}
use Rattle.std.proofs.Common.{subst, ◌∙◌, sym, inl, inr, arith, append_assoc, append-nil, length-append, length-take}
use Rattle.std.proofs.Common.{Option, Some, None}
use Rattle.std.proofs.Math.Seq.{take-append-add}
use Rattle.std.proofs.lemmas.Bool.{le-leb, lt-leb, cases_lt}
use Rattle.wav_file.specs.declared.part.Part.{Part}
use Rattle.wav_file.specs.declared.part.Part.TheVariants.{Head, Chunk as AtChunk, Format as AtFormat, Data, Failed}
use Rattle.wav_file.specs.declared.rates.Rates.{Rates}
use Rattle.wav_file.specs.Place.{told_place}
use Rattle.wav_file.specs.Samples.{sample_of, samples}
use Rattle.wav_file.specs.Reading.{Reading, reading}
use Rattle.wav_file.specs.Held.{Held, Fits, StandsFor, after_pairs, trailing, data_reading, fault_of_part, pairs_ahead}
use Rattle.wav_file.specs.Held.{rate_of_part, rest_reading, whole_of_part}
use Rattle.wav_file.proofs.RestLemmas.{at_end, now_told}

-- samples that follow whole ones
samples-append : (octets more : List ℕ) → length octets % 2 ≡ 0 → samples (octets ++ more) ≡ samples octets
    ++ samples more
samples-append [] more even = refl
samples-append (low ∷ []) more even = absurd (omega arith)
samples-append (low ∷ high ∷ octets) more even =
    ap (λ t. sample_of low high ∷ t) (samples-append octets more (omega (arith, even)))

-- whole samples of data with an end, and those of the rest
data_with_end : (rate left : ℕ) (octets more : List ℕ) → length octets % 2 ≡ 0 → length octets ≤ left
    → data_reading rate (Some left) [] (octets ++ more)
    ≡ trailing (samples octets) (data_reading rate (Some (left - length octets)) [] more)
data_with_end rate left octets more even within =
    let rest : ℕ = left - length octets in
    let sum : left ≡ length octets + rest = omega (arith, within) in
    let front : take left (octets ++ more) ≡ octets ++ take rest more =
    ap (λ n. take n (octets ++ more)) sum ∙ take-append-add octets more rest in
    let ends : leb left (length (octets ++ more)) ≡ leb rest (length more) =
    elim (cases_lt (length more) rest) [
      | inl past ↦ lt-leb left (length (octets ++ more)) (omega (arith, length-append octets more, past, sum))
          ∙ sym (lt-leb rest (length more) past)
      | inr there ↦ le-leb left (length (octets ++ more)) (omega (arith, length-append octets more, there, sum))
          ∙ sym (le-leb rest (length more) there)
    ] in
    ap (λ xs. record { fault = None; rate = Some rate; heard = xs; whole = leb left (length (octets ++ more)) })
    (ap samples front ∙ samples-append octets (take rest more) even)
    ∙ ap (λ b. record { fault = None; rate = Some rate; heard = samples octets ++ samples (take rest more); whole = b })
    ends

-- no more octets are passed than there are
pub few : (part : Part) (octets : List ℕ) (count : ℕ) → count ≡ pairs_ahead part (length octets) → count ≤ length octets
few Head octets count e = omega (arith, e)
few (AtChunk rate skip) octets count e = omega (arith, e)
few (AtFormat field rate skip) octets count e = omega (arith, e)
few (Data rate left (Some low)) octets count e = omega (arith, e)
few (Data rate None None) octets count e = omega (arith, e)
few (Data rate (Some left) None) octets count e = omega (arith, e)
few (Failed fault) octets count e = omega (arith, e)

module _ (rates : Rates) where
  -- no octet is passed
  none_passed : (n m : ℕ) (part : Part) (unit octets more : List ℕ) (count : ℕ) → count ≡ 0 → m ≡ n + count
      → rest_reading rates n part unit (take count octets ++ more)
      ≡ trailing (samples (take count octets)) (rest_reading rates m part unit more)
  none_passed n m part unit octets more count none sum =
      let same : n ≡ m = omega (arith, none, sum) in
      let K : ℕ → Type 0 = λ k. rest_reading rates n part unit (take k octets ++ more)
      ≡ trailing (samples (take k octets)) (rest_reading rates m part unit more) in
      subst K (sym none) (ap (λ k. rest_reading rates k part unit more) same)

  -- The whole samples ahead keep the reading of the rest, but for themselves.
  pairs_keep : (n m : ℕ) (part : Part) (unit octets more : List ℕ) (count : ℕ)
      → count ≡ pairs_ahead part (length octets) → m ≡ n + count
      → rest_reading rates n part unit (take count octets ++ more)
      ≡ trailing (samples (take count octets)) (rest_reading rates m (after_pairs part count) unit more)
  pairs_keep n m Head unit octets more count is sum = none_passed n m Head unit octets more count is sum
  pairs_keep n m (AtChunk rate skip) unit octets more count is sum =
      none_passed n m (AtChunk rate skip) unit octets more count is sum
  pairs_keep n m (AtFormat field rate skip) unit octets more count is sum =
      none_passed n m (AtFormat field rate skip) unit octets more count is sum
  pairs_keep n m (Data rate left (Some low)) unit octets more count is sum =
      none_passed n m (Data rate left (Some low)) unit octets more count is sum
  pairs_keep n m (Data rate None None) unit octets more count is sum =
      let size : length (take count octets) ≡ count = omega (arith, length-take count octets, is) in
      ap (λ xs. record { fault = None; rate = Some rate; heard = xs; whole = true })
      (samples-append (take count octets) more (omega (arith, size, is)))
  pairs_keep n m (Data rate (Some left) None) unit octets more count is sum =
      let size : length (take count octets) ≡ count = omega (arith, length-take count octets, is) in
      data_with_end rate left (take count octets) more (omega (arith, size, is)) (omega (arith, size, is))
      ∙ ap (λ k. trailing (samples (take count octets)) (data_reading rate (Some (left - k)) [] more)) size
  pairs_keep n m (Failed fault) unit octets more count is sum =
      none_passed n m (Failed fault) unit octets more count is sum

  module _ (held : Held) (before octets : List ℕ) (count : ℕ) (stands : StandsFor rates held before)
      (fitted : Fits held.position held.part held.unit) (is : count ≡ pairs_ahead held.part (length octets))
      (next : Held) (same : next.rates ≡ held.rates) (part : next.part ≡ after_pairs held.part count)
      (unit : next.unit ≡ held.unit) (counted : next.position ≡ told_place (held.position + count)) where
    fits : Fits next.position next.part next.unit
    fits =
        let P : ℕ → Type 0 = λ n. Fits n next.part next.unit in
        let Q : Part → Type 0 = λ p. Fits (told_place (held.position + count)) p next.unit in
        let R : List ℕ → Type 0 = λ u. Fits (told_place (held.position + count)) (after_pairs held.part count) u in
        subst P (sym counted) (subst Q (sym part) (subst R (sym unit) (kept held.part fitted is)))
      where
        kept : (p : Part) → Fits held.position p held.unit → count ≡ pairs_ahead p (length octets)
            → Fits (told_place (held.position + count)) (after_pairs p count) held.unit
        kept Head f e = (omega (arith, f.0, e), f.1)
        kept (AtChunk rate skip) f e = f
        kept (AtFormat field rate skip) f e = f
        kept (Data rate left (Some low)) f e = f
        kept (Data rate None None) f e = f
        kept (Data rate (Some left) None) f e = f
        kept (Failed fault) f e = f

    size : length (before ++ take count octets) ≡ length before + count
    size = omega (arith, length-append before (take count octets), length-take count octets, few held.part octets count is)

    -- the file with the samples, and more
    after_more : (more : List ℕ) → reading rates (before ++ (take count octets ++ more))
        ≡ trailing ((reading rates before).heard ++ samples (take count octets))
        (rest_reading rates (length (before ++ take count octets)) next.part next.unit more)
    after_more more =
        let n : ℕ = length (before ++ take count octets) in
        let rest : Reading = rest_reading rates n (after_pairs held.part count) held.unit more in
        let found = samples (take count octets) in
        stands.rest (take count octets ++ more)
        ∙ ap (trailing (reading rates before).heard)
        (pairs_keep (length before) n held.part held.unit octets more count is size)
        ∙ ap (λ xs. record { fault = rest.fault; rate = rest.rate; heard = xs; whole = rest.whole })
        (sym (append_assoc (reading rates before).heard found rest.heard))
        ∙ ap (λ p. trailing ((reading rates before).heard ++ found) (rest_reading rates n p held.unit more)) (sym part)
        ∙ ap (λ u. trailing ((reading rates before).heard ++ found) (rest_reading rates n next.part u more)) (sym unit)

    now : reading rates (before ++ take count octets) ≡ record {
      fault = fault_of_part next.part;
      rate = rate_of_part next.part;
      heard = ((reading rates before).heard ++ samples (take count octets)) ++ [];
      whole = whole_of_part next.part;
    }
    now = ap (λ xs. reading rates (before ++ xs)) (sym (append-nil (take count octets)))
        ∙ after_more []
        ∙ ap (trailing ((reading rates before).heard ++ samples (take count octets)))
        (at_end rates (length (before ++ take count octets)) next.position next.part next.unit fits)

    pub samples_after : (reading rates (before ++ take count octets)).heard
        ≡ (reading rates before).heard ++ samples (take count octets)
    samples_after = ap (λ (r : Reading). r.heard) now
        ∙ append-nil ((reading rates before).heard ++ samples (take count octets))

    pub fault_after : (reading rates (before ++ take count octets)).fault ≡ (reading rates before).fault
    fault_after = ap (λ (r : Reading). r.fault) now ∙ ap fault_of_part part ∙ kept held.part
        ∙ sym (now_told rates held before stands fitted).0
      where
        kept : (p : Part) → fault_of_part (after_pairs p count) ≡ fault_of_part p
        kept Head = refl
        kept (AtChunk rate skip) = refl
        kept (AtFormat field rate skip) = refl
        kept (Data rate left (Some low)) = refl
        kept (Data rate None None) = refl
        kept (Data rate (Some left) None) = refl
        kept (Failed fault) = refl

    pub stands_after : StandsFor rates next (before ++ take count octets)
    stands_after =
        let short : length next.unit ≡ length held.unit = ap length unit in
        record {
          takes = same ∙ stands.takes;
          place = omega (arith, counted, stands.place, size);
          enough = omega (arith, short, stands.enough, size);
          rest = λ more.
              ap (reading rates) (append_assoc before (take count octets) more)
              ∙ after_more more
              ∙ ap (λ xs. trailing xs
              (rest_reading rates (length (before ++ take count octets)) next.part next.unit more)) (sym samples_after);
        }
