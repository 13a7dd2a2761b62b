-- What is promised of a text that is written.
use Rattle.tnc_encode.proofs.Common.{◌≡◌, ℕ, List, ◌++◌, Option, Some, Result, append_assoc, subst, ap, ◌∙◌, Fault}
use Rattle.tnc_encode.proofs.Common.{map_ok, wrote_after}
use Rattle.tnc_forms.proofs.Ends.{map_err}
use Rattle.tnc_encode.specs.Writing.{Writes}

-- the same text in other words
pub writes_same : (text other : List ℕ) (was now : Option (List ℕ)) (result : Result (Unit {0}) Fault) → text ≡ other
    → Writes text was now result → Writes other was now result
writes_same text other was now result same h =
    let P : List ℕ → Type 0 = λ t. Writes t was now result in subst P same h

-- a text after another that was written
pub writes_after : (front text : List ℕ) (was mid now : Option (List ℕ)) (result : Result (Unit {0}) Fault)
    → ((before : List ℕ) → was ≡ Some before → mid ≡ Some (before ++ front)) → Writes text mid now result
    → Writes (front ++ text) was now result
writes_after front text was mid now result there h = record {
  all = λ before is. map_ok result (λ e. e ∙ ap Some (append_assoc before front text))
      (h.all (before ++ front) (there before is));
  part = λ before is. map_err result (wrote_after before front text now) (h.part (before ++ front) (there before is));
}
