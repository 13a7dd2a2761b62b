-- What is known of a form stays so, and lines are a form.
use Rattle.tnc_forms.proofs.Common.{◌≡◌, ℕ, List, [], ◌++◌, Option, Some, None, refl, sym, ap, ◌∙◌, append-nil}
use Rattle.tnc_forms.proofs.Common.{InputFault, TooLong, LineFault, fault_in_line, fault_of_lines, line_fault}
use Rattle.tnc_forms.proofs.Common.{fault_so_far}
use Rattle.tnc_forms.specs.declared.fault.InputFault.TheVariants.{Line}
use Rattle.tnc_forms.specs.LinesSoFar.{known_lines}
use Rattle.tnc_forms.specs.Form.{Form, IsForm, lines_form}
use Rattle.tnc_forms.proofs.SoFarLemmas.{fault_none_yet, fault_some, frames_none, frames_whole, stays}

-- the frames so far are the first of the whole
pub first_frames : (form : Form) → IsForm form → (octets more : List ℕ) → (frames : List (List ℕ))
    × (form.frames_of (octets ++ more) ≡ form.frames_so_far octets ++ frames)
first_frames form laws octets more = go (form.fault_so_far octets) refl
  where
    go : (found : Option InputFault) → form.fault_so_far octets ≡ found
        → (frames : List (List ℕ)) × (form.frames_of (octets ++ more) ≡ form.frames_so_far octets ++ frames)
    go None is = laws.whole octets more is
    go (Some fault) is = ([], (laws.bad octets more fault is).3 ∙ sym (append-nil (form.frames_so_far octets)))

-- a bad line is no input that is too long
line_not_long : (found : Option LineFault) (fault : InputFault) → fault_in_line found ≡ Some fault → fault ≡ TooLong → ⊥
line_not_long found fault is long =
    let line = fault_some found fault is in
    let both : Some (Line line.0) ≡ Some TooLong = line.2 ∙ ap Some long in
    cc both

so_far_not_long : (least : ℕ) (octets : List ℕ) (fault : InputFault) → fault_so_far least octets ≡ Some fault
    → fault ≡ TooLong → ⊥
unfolding fault_so_far
so_far_not_long least octets fault is = line_not_long (fault_of_lines least (known_lines octets)) fault is

pub lines_are_form : (least : ℕ) → IsForm (lines_form least)
lines_are_form least = record {
  none = frames_none least;
  good = fault_none_yet least;
  whole = frames_whole least;
  bad = stays least;
  not_long = so_far_not_long least;
  not_long_whole = λ octets fault is. line_not_long (line_fault least octets) fault is;
}
