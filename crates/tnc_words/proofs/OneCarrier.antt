-- An option says one way by which a channel is busy.
use Rattle.tnc_words.proofs.Common.{◌≡◌, ℕ, Bool, Option, Some, None, Text, codes, refl, sym, ap, ◌∙◌}
use Rattle.std.proofs.Common.{◌<◌, arith, subst, true, false}
use Rattle.std.specs.Str.Parse.{IsNumeral}
use Rattle.tnc_words.specs.Carriers.{HasDcd}
use Rattle.tnc_words.specs.Numbers.{IsNumber}
use Rattle.tnc_words.specs.declared.command.Dcd.{Dcd}
use Rattle.tnc_words.specs.declared.command.Dcd.TheVariants.{Tones, Flags}
use Rattle.tnc_words.proofs.OneNumber.{given_number}

-- the name of tones is no number: its first letter is no digit
no_number : (text : Text) (number : ℕ) → text ≡ codes "tones" → IsNumber text number → ⊥
no_number text number is number_is =
    let digits : IsNumeral 10 (codes "tones") = subst (IsNumeral 10) is number_is.digits in
    let first : 29 < 10 = digits.1.0 in
    omega arith

pub one_dcd : (hf : Bool) (text : Option Text) (dcd other : Dcd) → HasDcd hf text dcd → HasDcd hf text other → dcd ≡ other
one_dcd false None dcd other h k = h ∙ sym k
one_dcd false (Some text) Tones Tones h k = refl
one_dcd false (Some text) Tones (Flags count) h k = absurd (no_number text count h k.0)
one_dcd false (Some text) (Flags count) Tones h k = absurd (no_number text count k h.0)
one_dcd false (Some text) (Flags count) (Flags more) h k = ap Flags (given_number (Some text) 1 8 count more h k)
one_dcd true None dcd other h k = h ∙ sym k
one_dcd true (Some text) Tones other h k = absurd h
one_dcd true (Some text) (Flags count) Tones h k = absurd k
one_dcd true (Some text) (Flags count) (Flags more) h k = ap Flags (given_number (Some text) 2 8 count more h k)
