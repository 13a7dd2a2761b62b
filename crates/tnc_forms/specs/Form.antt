-- A form of frames: what of them is known of octets, and what a whole input holds. No public clause cites it.
use Rattle.std.specs.Prelude.{◌≡◌, ℕ, List, [], ◌++◌, Option, Some, None}
use Rattle.tnc_forms.specs.declared.fault.InputFault.{InputFault}
use Rattle.tnc_forms.specs.declared.fault.InputFault.TheVariants.{TooLong}
use Rattle.tnc_forms.specs.Faults.{hex_fault}
use Rattle.tnc_forms.specs.HexFrames.{frames_in_lines}
use Rattle.tnc_forms.specs.LinesSoFar.{fault_so_far, frames_so_far}

-- the frames that are known of octets, and those of a whole input; and what is wrong with either
pub record Form : Type 0 where
  pub frames_so_far : List ℕ → List (List ℕ)
  pub frames_of : List ℕ → List (List ℕ)
  pub fault_so_far : List ℕ → Option InputFault
  pub fault_of : List ℕ → Option InputFault

-- lines of frames of so many octets or more
abbrev pub lines_form : ℕ → Form
lines_form least = record {
  frames_so_far = frames_so_far least;
  frames_of = frames_in_lines least;
  fault_so_far = fault_so_far least;
  fault_of = hex_fault least;
}

-- what is known in a form stays so
pub record IsForm (form : Form) : Type 0 where
  pub none : form.frames_so_far [] ≡ []
  pub good : form.fault_so_far [] ≡ None
  pub whole : (octets more : List ℕ) → form.fault_so_far octets ≡ None
      → (frames : List (List ℕ)) × (form.frames_of (octets ++ more) ≡ form.frames_so_far octets ++ frames)
  pub bad : (octets more : List ℕ) (fault : InputFault) → form.fault_so_far octets ≡ Some fault
      → (form.fault_so_far (octets ++ more) ≡ Some fault) × (form.fault_of (octets ++ more) ≡ Some fault)
      × (form.frames_so_far (octets ++ more) ≡ form.frames_so_far octets)
      × (form.frames_of (octets ++ more) ≡ form.frames_so_far octets)
  pub not_long : (octets : List ℕ) (fault : InputFault) → form.fault_so_far octets ≡ Some fault → fault ≡ TooLong → ⊥
  pub not_long_whole : (octets : List ℕ) (fault : InputFault) → form.fault_of octets ≡ Some fault → fault ≡ TooLong → ⊥
