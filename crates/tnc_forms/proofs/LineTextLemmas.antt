-- How large that is which a line holds.
use Rattle.tnc_forms.proofs.Common.{◌≡◌, ℕ, ◌+◌, ◌≤◌, ◌==◌, nat_lt, Bool, true, false, List, length, Result, Ok, Err}
use Rattle.tnc_forms.proofs.Common.{inl, inr, refl, sym, subst, arith, lt-ltb, le-ltb, if◌then◌else◌, cases_lt, IsBytes}
use Rattle.tnc_forms.proofs.Common.{decode_of, LongLine, LineText, Nothing, Frame, Refused, HasGoodLength, text_of}
use Rattle.tnc_forms.proofs.Common.{text_of_digits}
use Rattle.std.proofs.Common.{◌*◌}
use Rattle.std.specs.Prelude.{⊤}
use Rattle.std.proofs.lemmas.Bool.{ltb-false}
use Rattle.hex.specs.declared.error.FromHexError.{FromHexError}
use Rattle.hex.specs.declared.error.FromHexError.TheVariants.{InvalidHexCharacter, OddLength, InvalidStringLength}
use Rattle.hex.specs.declared.error.FromHexError.TheVariants.{OutOfMemory}
use Rattle.hex.proofs.HexLemmas.{decode_of-ok, decode_of-err}
use Rattle.tnc_forms.specs.declared.line_fault.LineFlaw.TheVariants.{ShortLine}

-- a frame has a good length, and what is refused shows within the line
abbrev pub IsWithin : ℕ → List ℕ → LineText → Type 0
IsWithin least text Nothing = ⊤
IsWithin least text (Frame octets) = HasGoodLength least octets × IsBytes octets
IsWithin least text (Refused flaw at) = at ≤ length text

-- the digits of a line that is not too long
digits_within : (least : ℕ) (text : List ℕ) (digits : Result (List ℕ) FromHexError) → decode_of text ≡ digits
    → length text ≤ 2048
    → IsWithin least text (text_of_digits least digits)
digits_within least text (Ok octets) is short =
    let spelled = decode_of-ok text octets is in
    let twice : length text ≡ 2 * length octets = spelled.2 in
    elim (cases_lt (length octets) least) [
      | inl few ↦ subst (λ t. IsWithin least text (if t then Refused ShortLine 0 else Frame octets))
          (sym (lt-ltb (length octets) least few)) (omega arith)
      | inr many ↦ subst (λ t. IsWithin least text (if t then Refused ShortLine 0 else Frame octets))
          (sym (le-ltb (length octets) least many))
          (record { enough = many; most = omega arith }, spelled.3)
    ]
digits_within least text (Err (InvalidHexCharacter digit at)) is short =
    elim (decode_of-err text (InvalidHexCharacter digit at) is) [
      | inl odd ↦ let other : InvalidHexCharacter digit at ≡ OddLength = odd.1 in cc other
      | inr bad ↦ let place : at ≡ 0 + bad.0 = cc (bad.1) in let below = bad.2 in omega arith
    ]
digits_within least text (Err OddLength) is short = omega arith
digits_within least text (Err InvalidStringLength) is short = omega arith
digits_within least text (Err OutOfMemory) is short = omega arith

-- what a line holds is of good size
pub text_of-within : (least : ℕ) (text : List ℕ) → IsWithin least text (text_of least text)
unfolding text_of
text_of-within least text =
    go (length text == 0) (nat_lt 2048 (length text))
    (λ e. digits_within least text (decode_of text) refl (ltb-false 2048 (length text) e))
  where
    go : (none long : Bool) → (long ≡ false → IsWithin least text (text_of_digits least (decode_of text)))
        → IsWithin least text (if none then Nothing else if long then Refused LongLine 0
        else text_of_digits least (decode_of text))
    go true long h = tt
    go false true h = omega arith
    go false false h = h refl
