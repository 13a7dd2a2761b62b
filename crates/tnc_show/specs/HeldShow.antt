-- What is taken of a piece of an input, and shown. No public clause cites it.
use Rattle.std.specs.Prelude.{◌≡◌, ℕ, List, ◌++◌, Option, Some, None}
use Rattle.ax25_frames.specs.declared.frame.Modulus.{Modulus}
use Rattle.tnc_forms.specs.declared.fault.InputFault.{InputFault}
use Rattle.tnc_forms.specs.HeldLine.{HeldLine, StandsFor}
use Rattle.tnc_forms.specs.LinesSoFar.{fault_so_far, frames_so_far}
use Rattle.tnc_words.specs.declared.command.ShowWords.{ShowWords}
use Rattle.tnc_show.specs.declared.shower.Shower.{Shower}
use Rattle.tnc_show.specs.Shown.{IsTextOf}

-- the text is that of the frames that octets more have brought
pub record IsTextOfMore (modulus : Modulus) (before octets text : List ℕ) : Type 0 where
  pub frames : List (List ℕ)
  pub known : frames_so_far 0 (before ++ octets) ≡ frames_so_far 0 before ++ frames
  pub is : IsTextOf modulus frames text

-- octets more were taken, or stop it
abbrev pub HasTaken : Modulus → List ℕ → List ℕ → List ℕ → HeldLine → Option InputFault → Type 0
HasTaken modulus before octets text lines None = StandsFor lines (before ++ octets)
    × IsTextOfMore modulus before octets text
HasTaken modulus before octets text lines (Some fault) =
    (fault_so_far 0 (before ++ octets) ≡ Some fault) × IsTextOfMore modulus before octets text

-- how the text stands, after some octets of a piece
pub record TookFront (modulus : Modulus) (was : HeldLine) (octets rest text : List ℕ) (now : HeldLine) : Type 0 where
  pub front : List ℕ
  pub parts : octets ≡ front ++ rest
  pub each : (before : List ℕ) → StandsFor was before → StandsFor now (before ++ front)
      × IsTextOfMore modulus before front text

-- by these words the shower has taken these octets
pub record HasShown (shower : Shower) (words : ShowWords) (octets : List ℕ) : Type 0 where
  pub modulus : shower.modulus ≡ words.modulus
  pub least : shower.lines.least ≡ 0
  pub stands : StandsFor shower.lines octets
