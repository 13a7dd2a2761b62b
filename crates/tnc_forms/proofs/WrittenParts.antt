-- First parts of a text that were written.
use Rattle.tnc_forms.proofs.Common.{◌≡◌, ℕ, List, [], ◌++◌, Option, Some, append_assoc, refl, sym, ap, ◌∙◌, append-nil}
use Rattle.tnc_base.specs.Streams.{WrotePart}

-- nothing is a first part of any text
pub wrote_nothing : (before text : List ℕ) (now : Option (List ℕ)) → now ≡ Some before → WrotePart before text now
wrote_nothing before text now is = ([], text, refl, is ∙ ap Some (sym (append-nil before)))

-- and all of it is one
pub wrote_all : (before text : List ℕ) (now : Option (List ℕ)) → now ≡ Some (before ++ text) → WrotePart before text now
wrote_all before text now is = (text, [], sym (append-nil text), is)

-- so is a first part of its front
pub wrote_front : (before front text : List ℕ) (now : Option (List ℕ)) → WrotePart before front now
    → WrotePart before (front ++ text) now
wrote_front before front text now (part, rest, parts, is) =
    (part, rest ++ text, ap (λ xs. xs ++ text) parts ∙ append_assoc part rest text, is)

-- and the front with a first part of what follows
pub wrote_after : (before front text : List ℕ) (now : Option (List ℕ)) → WrotePart (before ++ front) text now
    → WrotePart before (front ++ text) now
wrote_after before front text now (part, rest, parts, is) = (
  front ++ part,
  rest,
  ap (λ xs. front ++ xs) parts ∙ sym (append_assoc front part rest),
  is ∙ ap Some (append_assoc before front part),
)
