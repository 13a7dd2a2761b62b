-- What encode makes of an input, and what is wrong with it.
use Rattle.tnc_encode.proofs.Common.{◌≡◌, ℕ, ◌≤◌, ℤ, List, [], ◌∷◌, ◌++◌, length, Option, Some, None, true≢false, refl}
use Rattle.tnc_encode.proofs.Common.{sym, subst, ap, ◌∙◌, arith, append-nil, if◌then◌else◌, WrotePart, InputFault}
use Rattle.tnc_encode.proofs.Common.{TooLong, input_limit, wrote_nothing, AudioForm, Raw, Wav, FrameForm, Hex, Kiss}
use Rattle.tnc_encode.proofs.Common.{EncodeWords, form_fault, encoded, encoded_before, fault_of_whole, first_of}
use Rattle.tnc_encode.proofs.Common.{length_fault, samples_sent, written_as, written_before}
use Rattle.std.proofs.Common.{le-ltb}
use Rattle.std.specs.Prelude.{is_some}
use Rattle.tnc_forms.specs.declared.fault.InputFault.TheVariants.{Line}
use Rattle.tnc_forms.specs.declared.line_fault.LineFault.{LineFault}
use Rattle.tnc_forms.specs.Faults.{fault_in_line}
use Rattle.tnc_forms.specs.HexFrames.{line_fault}

some_is_not_none : (fault : InputFault) → Some fault ≡ None → ⊥
some_is_not_none fault e = true≢false (ap is_some e)

-- no fault of a form is that of length
pub form_not_long : (form : FrameForm) (input : List ℕ) (fault : InputFault) → form_fault form input ≡ Some fault
    → fault ≡ TooLong → ⊥
form_not_long Hex input fault is long = go (line_fault 15 input) is
  where
    go : (line : Option LineFault) → fault_in_line line ≡ Some fault → ⊥
    go None e = some_is_not_none fault (sym e)
    go (Some line) e = let same : Some (Line line) ≡ Some TooLong = e ∙ ap Some long in cc same
form_not_long Kiss input fault is long = some_is_not_none fault (sym is)

part_of_nothing : (before text : List ℕ) (now : Option (List ℕ)) → WrotePart before [] now → WrotePart before text now
part_of_nothing before text now (part, rest, parts, is) = go part parts is
  where
    go : (xs : List ℕ) → [] ≡ xs ++ rest → now ≡ Some (before ++ xs) → WrotePart before text now
    go [] e w = wrote_nothing before text now (w ∙ ap Some (append-nil before))
    go (x ∷ xs) e w = let no : 0 ≡ length (x ∷ (xs ++ rest)) = ap length e in absurd (omega (arith, no))

-- a first part of what is written before a fault is one of what would be written without it
part_of : (form : AudioForm) (samples : List ℤ) (before : List ℕ) (now : Option (List ℕ))
    → WrotePart before (written_before form samples) now
    → WrotePart before (written_as form samples) now
part_of Raw samples before now h = h
part_of Wav samples before now h = part_of_nothing before (written_as Wav samples) now h

module _ (words : EncodeWords) (input : List ℕ) where
  within : length input ≤ input_limit
      → fault_of_whole words input ≡ first_of (form_fault words.frames input)
      (length_fault words.audio (length (samples_sent words input)))
  unfolding fault_of_whole
  within short =
      ap (λ b. if b then Some TooLong else first_of (form_fault words.frames input)
      (length_fault words.audio (length (samples_sent words input))))
      (le-ltb input_limit (length input) short)

  -- an input without a fault of its form
  pub fault_of_length : length input ≤ input_limit → form_fault words.frames input ≡ None
      → fault_of_whole words input ≡ length_fault words.audio (length (samples_sent words input))
  fault_of_length short none = within short
      ∙ ap (λ f. first_of f (length_fault words.audio (length (samples_sent words input)))) none

  -- and one with such a fault
  pub fault_of_form : (fault : InputFault) → length input ≤ input_limit → form_fault words.frames input ≡ Some fault
      → fault_of_whole words input ≡ Some fault
  fault_of_form fault short is = within short
      ∙ ap (λ f. first_of f (length_fault words.audio (length (samples_sent words input)))) is

  pub encoded_is : written_as words.audio (samples_sent words input) ≡ encoded words input
  unfolding encoded
  encoded_is = refl

  pub encoded_before_is : written_before words.audio (samples_sent words input) ≡ encoded_before words input
  unfolding encoded_before
  encoded_before_is = refl

  pub no_file_before : words.audio ≡ Wav → encoded_before words input ≡ []
  no_file_before wav = sym encoded_before_is ∙ ap (λ form. written_before form (samples_sent words input)) wav

  pub part_before : (before : List ℕ) (now : Option (List ℕ)) → WrotePart before (encoded_before words input) now
      → WrotePart before (encoded words input) now
  part_before before now h =
      subst (λ (text : List ℕ). WrotePart before text now) encoded_is
      (part_of words.audio (samples_sent words input) before now
      (subst (λ (text : List ℕ). WrotePart before text now) (sym encoded_before_is) h))
