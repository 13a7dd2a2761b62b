-- What octets settle: with more octets after them, at the end of the input, and as a first part of what the whole input
-- gives.
use Rattle.tnc_decode.proofs.Common.{◌≡◌, ℕ, ◌-◌, ◌≤◌, ℤ, List, [], ◌++◌, length, refl, ap, sym, subst, ◌∙◌, arith}
use Rattle.tnc_decode.proofs.Common.{inl, inr, Candidate, remaining}
use Rattle.tnc_decode.proofs.Common.{below, candidate_frames, Rates, chunks, reading, AudioForm, Raw, Wav, DecodeWords}
use Rattle.tnc_decode.proofs.Common.{FrameForm, Modem, rates_of, samples_at, samples_read, IsDecoded, modem_of}
use Rattle.tnc_decode.proofs.Common.{AreHeard, settled_count, AreGivenBelow, AreGivenBetween, AreGivenRest, print}
use Rattle.tnc_decode.proofs.Common.{printed, IsSettled, sample_count, most_at_once}
use Rattle.std.proofs.lemmas.List.{map-append}
use Rattle.std.proofs.lemmas.Grind.{flat_map-append}
use Rattle.tnc_decode.specs.Settled.{IsPrintBelow}
use Rattle.tnc_decode.proofs.AudioLemmas.{modem_stays}
use Rattle.tnc_decode.proofs.ModemLemmas.{none_heard, none_remaining, one_heard, settled_rises, given_join, given_all, given_first}
use Rattle.tnc_decode.proofs.ModemLemmas.{given_early}

-- frames are printed one after another
pub print-append : (form : FrameForm) (a b : List Candidate)
    → print form (candidate_frames (a ++ b)) ≡ print form (candidate_frames a) ++ print form (candidate_frames b)
unfolding print
print-append form a b =
    ap (print form) (map-append (λ item. item.octets) a b)
    ∙ flat_map-append (printed form) (candidate_frames a) (candidate_frames b)

print_nothing : (form : FrameForm) → [] ≡ print form []
unfolding print
print_nothing form = refl

-- no octet has a sample
pub no_sample : (rates : Rates) (form : AudioForm) → samples_at rates form [] ≡ []
unfolding reading chunks
no_sample rates Raw = refl
no_sample rates Wav = refl

-- octets that have no sample settle nothing
pub settled_silent : (words : DecodeWords) (octets text : List ℕ) → samples_read words octets ≡ [] → text ≡ []
    → IsSettled words octets text
settled_silent words octets text none empty =
    let modem : Modem = modem_of words octets in
    let P : List ℤ → Type 0 = λ y. AreGivenBelow modem (settled_count modem y) y [] in
    record {
      items = [];
      are = subst P (sym none) (record {
        candidates = [];
        are = none_heard modem;
        is = ap (below (settled_count modem [])) (none_remaining modem);
      });
      is = empty ∙ print_nothing words.frames;
    }

pub settled_none : (words : DecodeWords) → IsSettled words [] []
settled_none words = settled_silent words [] [] (no_sample (rates_of words.receiving) words.audio) refl

-- and an input of no sample gives no frame
pub silent_text : (words : DecodeWords) (octets : List ℕ) → samples_read words octets ≡ [] → IsDecoded words octets []
silent_text words octets none =
    let modem : Modem = modem_of words octets in
    record {
      candidates = [];
      are = subst (λ (y : List ℤ). AreHeard modem y []) (sym none) (none_heard modem);
      is = print_nothing words.frames ∙ ap (λ t. print words.frames (candidate_frames t)) (none_remaining modem);
    }

-- what octets without a sample settled is nothing
pub silent_nothing : (words : DecodeWords) (octets text : List ℕ) → samples_read words octets ≡ []
    → IsSettled words octets text → text ≡ []
silent_nothing words octets text none h =
    let modem : Modem = modem_of words octets in
    let are : AreHeard modem [] h.are.candidates = subst (λ (y : List ℤ). AreHeard modem y h.are.candidates)
    none h.are.are in
    let empty : h.are.candidates ≡ [] = one_heard modem [] h.are.candidates [] are (none_heard modem) in
    h.is ∙ ap (λ t. print words.frames (candidate_frames t)) (h.are.is
    ∙ ap (λ c. below (sample_count words octets) (remaining modem c)) empty
    ∙ ap (below (sample_count words octets)) (sym (none_remaining modem))) ∙ sym (print_nothing words.frames)

-- What octets settle they settle for the modem that hears more of them: either it is the same, or nothing is settled.
pub settled_as : (words : DecodeWords) (before octets text : List ℕ) → IsSettled words before text
    → (items : List Candidate) × AreGivenBelow (modem_of words (before ++ octets))
    (settled_count (modem_of words (before ++ octets)) (samples_read words before)) (samples_read words before)
    items
    × (text ≡ print words.frames (candidate_frames items))
settled_as words before octets text h = elim (modem_stays words before octets) [
  | inl same ↦
      let P : Modem → Type 0 = λ modem. AreGivenBelow modem (settled_count modem (samples_read words before))
      (samples_read words before) h.items in
      (h.items, subst P (sym same) h.are, h.is)
  | inr none ↦
      let modem : Modem = modem_of words (before ++ octets) in
      let P : List ℤ → Type 0 = λ y. AreGivenBelow modem (settled_count modem y) y [] in (
        [],
        subst P (sym none) (record {
          candidates = [];
          are = none_heard modem;
          is = ap (below (settled_count modem [])) (none_remaining modem);
        }),
        silent_nothing words before text none h ∙ print_nothing words.frames,
      )
]

-- more octets settle more
pub settled_more : (words : DecodeWords) (before octets text more : List ℕ) (y : List ℤ) (items : List Candidate)
    → samples_read words (before ++ octets) ≡ samples_read words before ++ y
    → IsSettled words before text
    → AreGivenBetween (modem_of words (before ++ octets))
    (settled_count (modem_of words (before ++ octets)) (samples_read words before))
    (settled_count (modem_of words (before ++ octets)) (samples_read words before ++ y))
    (samples_read words before ++ y) items
    → more ≡ print words.frames (candidate_frames items)
    → IsSettled words (before ++ octets) (text ++ more)
settled_more words before octets text more y items longer h next is =
    let modem : Modem = modem_of words (before ++ octets) in
    let s = settled_as words before octets text h in
    let P : List ℤ → Type 0 = λ z. AreGivenBelow modem (settled_count modem z) z (s.0 ++ items) in
    record {
      items = s.0 ++ items;
      are = subst P (sym longer) (given_join modem (samples_read words before) y s.0 items s.1 next);
      is = ap (λ t. t ++ more) s.2 ∙ ap (λ t. print words.frames (candidate_frames s.0) ++ t) is
          ∙ sym (print-append words.frames s.0 items);
    }

-- at the end of the input the rest comes
pub decoded_at_end : (words : DecodeWords) (octets text more : List ℕ) (items : List Candidate)
    → IsSettled words octets text
    → AreGivenRest (modem_of words octets) (sample_count words octets) (samples_read words octets) items
    → more ≡ print words.frames (candidate_frames items)
    → IsDecoded words octets (text ++ more)
decoded_at_end words octets text more items h rest is = record {
  candidates = rest.candidates;
  are = rest.are;
  is = ap (λ t. t ++ more) h.is ∙ ap (λ t. print words.frames (candidate_frames h.items) ++ t) is
      ∙ sym (print-append words.frames h.items items)
      ∙ ap (λ t. print words.frames (candidate_frames t))
      (given_all (modem_of words octets) (sample_count words octets) (samples_read words octets)
      h.items items h.are rest);
}

-- what the first octets settle is a first part of what all give
pub settled_first : (words : DecodeWords) (front octets rest text whole : List ℕ) (y : List ℤ) → octets ≡ front ++ rest
    → samples_read words octets ≡ samples_read words front ++ y
    → IsSettled words front text → IsDecoded words octets whole
    → (rest : List ℕ) × (whole ≡ text ++ rest)
settled_first words front octets rest text whole y parts longer h d =
    let modem : Modem = modem_of words (front ++ rest) in
    let same : modem_of words octets ≡ modem = ap (modem_of words) parts in
    let s = settled_as words front rest text h in
    let are : AreHeard modem (samples_read words front ++ y) d.candidates
    = subst (λ (z : List ℤ). AreHeard modem z d.candidates) longer
    (subst (λ m. AreHeard m (samples_read words octets) d.candidates) same d.are) in
    let first = given_first modem (samples_read words front) y s.0 d.candidates s.1 are in (
      print words.frames (candidate_frames first.0),
      d.is ∙ ap (λ t. print words.frames (candidate_frames (remaining t d.candidates))) same
          ∙ ap (λ t. print words.frames (candidate_frames t)) first.1 ∙ print-append words.frames s.0 first.0
          ∙ ap (λ t. t ++ print words.frames (candidate_frames first.0)) (sym s.2),
    )

-- of what first octets settle, the first part ends long before the end of all
pub early_part : (words : DecodeWords) (front octets rest text all_text : List ℕ) (y : List ℤ) → octets ≡ front ++ rest
    → samples_read words octets ≡ samples_read words front ++ y → length y ≤ most_at_once words
    → IsSettled words front text → IsDecoded words octets all_text
    → (early : List ℕ) × (more : List ℕ) × IsPrintBelow (sample_count words octets - most_at_once words) words octets early
    × (text ≡ early ++ more)
early_part words front octets rest text all_text y parts longer few h d =
    let modem : Modem = modem_of words (front ++ rest) in
    let same : modem_of words octets ≡ modem = ap (modem_of words) parts in
    let x : List ℤ = samples_read words front in
    let m : ℕ = sample_count words octets - most_at_once words in
    let count : sample_count words octets ≡ settled_count modem (x ++ y)
    = ap (λ t. settled_count t (samples_read words octets)) same ∙ ap (settled_count modem) longer in
    let most = (settled_rises modem x y).1 in
    let s = settled_as words front rest text h in
    let are : AreHeard modem (x ++ y) d.candidates
    = subst (λ (z : List ℤ). AreHeard modem z d.candidates) longer
    (subst (λ t. AreHeard t (samples_read words octets) d.candidates) same d.are) in
    let halves = given_early modem m x y s.0 d.candidates (omega arith) s.1 are in
    let early : List Candidate = below m (remaining modem d.candidates) in
    let early_is : early ≡ below m (remaining (modem_of words octets) d.candidates)
    = ap (λ t. below m (remaining t d.candidates)) (sym same) in (
      print words.frames (candidate_frames early),
      print words.frames (candidate_frames halves.0),
      record { items = early; are = record { candidates = d.candidates; are = d.are; is = early_is }; is = refl },
      s.2 ∙ ap (λ t. print words.frames (candidate_frames t)) halves.1 ∙ print-append words.frames early halves.0,
    )
