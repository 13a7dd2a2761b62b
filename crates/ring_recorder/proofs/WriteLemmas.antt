-- Samples that are written piece after piece.
use Rattle.std.proofs.Common.{◌≡◌, ℕ, List, [], ◌++◌, length, take, drop, Option, Some, append_assoc, refl, sym, ap}
use Rattle.std.proofs.Common.{◌∙◌, subst}
use Rattle.std.specs.Prelude.{ℤ, Result, Ok, Err, OnOk, OnErr}
use Rattle.std.proofs.lemmas.List.{append-nil, take-append-drop}
use Rattle.std.proofs.lemmas.Grind.{flat_map-append}
use Rattle.tnc_base.specs.Streams.{WrotePart}
use Rattle.wav_file.specs.Head.{head_of}
use Rattle.ring_recorder.specs.Wave.{sample_octets, octets_of, wave_of}

-- ---- first parts of a text

-- a first part of the front is one of the whole
pub part_of_front : (before front text : List ℕ) (now : Option (List ℕ)) → WrotePart before front now
    → WrotePart before (front ++ text) now
part_of_front before front text now (part, rest, parts, is) =
    (part, rest ++ text, ap (λ xs. xs ++ text) parts ∙ append_assoc part rest text, is)

-- and so is the front with a first part of what follows
pub part_past_front : (before front text : List ℕ) (now : Option (List ℕ)) → WrotePart (before ++ front) text now
    → WrotePart before (front ++ text) now
part_past_front before front text now (part, rest, parts, is) = (
  front ++ part,
  rest,
  ap (λ xs. front ++ xs) parts ∙ sym (append_assoc front part rest),
  is ∙ ap Some (append_assoc before front part),
)

-- ---- samples

pub octets_append : (xs ys : List ℤ) → octets_of (xs ++ ys) ≡ octets_of xs ++ octets_of ys
octets_append xs ys = flat_map-append sample_octets xs ys

-- the samples up to these are written
pub record WroteUpTo (all rest : List ℤ) (was now : Option (List ℕ)) (faults faults_now : ℕ) : Type 0 where
  pub done : List ℤ
  pub parts : all ≡ done ++ rest
  pub written : (before : List ℕ) → was ≡ Some before → now ≡ Some (before ++ octets_of done)
  pub faultless : faults_now ≡ faults

pub wrote_piece : (all rest piece others : List ℤ) (was now after : Option (List ℕ)) (faults faults_now faults' : ℕ)
    → WroteUpTo all rest was now faults faults_now → rest ≡ piece ++ others
    → ((before : List ℕ) → now ≡ Some before → after ≡ Some (before ++ octets_of piece)) → faults' ≡ faults_now
    → WroteUpTo all others was after faults faults'
wrote_piece all rest piece others was now after faults faults_now faults' h parts wrote same = record {
  done = h.done ++ piece;
  parts = h.parts ∙ ap (λ r. h.done ++ r) parts ∙ sym (append_assoc h.done piece others);
  written = λ before is. wrote (before ++ octets_of h.done) (h.written before is)
      ∙ ap Some (append_assoc before (octets_of h.done) (octets_of piece)
      ∙ ap (λ o. before ++ o) (sym (octets_append h.done piece)));
  faultless = same ∙ h.faultless;
}

-- a slice that is split
pub cut : (rest piece others : List ℤ) (mid : ℕ) → piece ≡ take mid rest → others ≡ drop mid rest
    → rest ≡ piece ++ others
cut rest piece others mid front back =
    sym (ap (λ p. p ++ others) front ∙ ap (λ o. take mid rest ++ o) back ∙ take-append-drop mid rest)

-- or a first part, if the next piece was cut short
pub wrote_part : (all rest piece others : List ℤ) (was now after : Option (List ℕ)) (faults faults_now : ℕ)
    → WroteUpTo all rest was now faults faults_now → rest ≡ piece ++ others
    → ((before : List ℕ) → now ≡ Some before → WrotePart before (octets_of piece) after) → (before : List ℕ)
    → was ≡ Some before → WrotePart before (octets_of all) after
wrote_part all rest piece others was now after faults faults_now h parts wrote before is =
    let text : octets_of all ≡ octets_of h.done ++ (octets_of piece ++ octets_of others) =
    ap octets_of (h.parts ∙ ap (λ r. h.done ++ r) parts) ∙ octets_append h.done (piece ++ others)
    ∙ ap (λ o. octets_of h.done ++ o) (octets_append piece others) in
    subst (λ (t : List ℕ). WrotePart before t after) (sym text)
    (part_past_front before (octets_of h.done) (octets_of piece ++ octets_of others) after
    (part_of_front (before ++ octets_of h.done) (octets_of piece) (octets_of others) after
    (wrote (before ++ octets_of h.done) (h.written before is))))

pub on_err : {T E P : Type 0} (r : Result T E) → P → OnErr r P
on_err (Ok v) p = tt
on_err (Err e) p = p

-- ---- a file

-- the octets of a file, whose head and two parts are written one after the other
pub wave_parts : (head : List ℕ) (n : ℕ) (sound first second : List ℤ) → head ≡ head_of n → n ≡ length sound
    → first ++ second ≡ sound → wave_of sound ≡ head ++ (octets_of first ++ octets_of second)
wave_parts head n sound first second is count parts =
    ap (λ h. h ++ octets_of sound) (sym (is ∙ ap head_of count))
    ∙ ap (λ o. head ++ o) (ap octets_of (sym parts) ∙ octets_append first second)

pub head_part : (head : List ℕ) (sound first second : List ℤ) → wave_of sound ≡ head ++
    (octets_of first ++ octets_of second)
    → (before : List ℕ) (now : Option (List ℕ)) → WrotePart before head now → WrotePart before (wave_of sound) now
head_part head sound first second whole before now part =
    subst (λ (t : List ℕ). WrotePart before t now) (sym whole)
    (part_of_front before head (octets_of first ++ octets_of second) now part)

pub first_part : (head : List ℕ) (sound first second : List ℤ) → wave_of sound ≡ head ++
    (octets_of first ++ octets_of second)
    → (before : List ℕ) (now : Option (List ℕ)) → WrotePart (before ++ head) (octets_of first) now
    → WrotePart before (wave_of sound) now
first_part head sound first second whole before now part =
    subst (λ (t : List ℕ). WrotePart before t now) (sym whole)
    (part_past_front before head (octets_of first ++ octets_of second) now
    (part_of_front (before ++ head) (octets_of first) (octets_of second) now part))

pub second_part : (head : List ℕ) (sound first second : List ℤ) → wave_of sound ≡ head ++
    (octets_of first ++ octets_of second)
    → (before : List ℕ) (now : Option (List ℕ)) → WrotePart ((before ++ head) ++ octets_of first) (octets_of second) now
    → WrotePart before (wave_of sound) now
second_part head sound first second whole before now part =
    subst (λ (t : List ℕ). WrotePart before t now) (sym whole)
    (part_past_front before head (octets_of first ++ octets_of second) now
    (part_past_front (before ++ head) (octets_of first) (octets_of second) now part))

pub all_parts : (head : List ℕ) (sound first second : List ℤ) → wave_of sound ≡ head ++
    (octets_of first ++ octets_of second)
    → (before : List ℕ) (now : Option (List ℕ)) → now ≡ Some (((before ++ head) ++ octets_of first) ++ octets_of second)
    → now ≡ Some (before ++ wave_of sound)
all_parts head sound first second whole before now is =
    is ∙ ap Some (append_assoc (before ++ head) (octets_of first) (octets_of second)
    ∙ append_assoc before head (octets_of first ++ octets_of second) ∙ ap (λ t. before ++ t) (sym whole))
