-- What comes of a control field and the octets after it: a kind of frame, or a fault.
use Rattle.std.specs.Prelude.{◌≡◌, ℕ, ◌⊎◌, if◌then◌else◌, nat_le, List, [], ◌∷◌, length, Result, Ok, Err, IsOk, IfOk}
use Rattle.std.specs.Prelude.{IfErr}
use Rattle.ax25_frames.specs.FrameOctets.{IsKind, body_octets}
use Rattle.ax25_frames.specs.FrameFault.{BodyFault}
use Rattle.ax25_frames.specs.declared.frame.Modulus.{Modulus}
use Rattle.ax25_frames.specs.declared.frame.Kind.{Kind}
use Rattle.ax25_frames.specs.declared.frame.Kind.TheVariants.{Info, Super, Setup, Ui, Other}
use Rattle.ax25_frames.specs.declared.fault.FrameFault.{FrameFault}
use Rattle.ax25_frames.specs.declared.fault.FrameFault.TheVariants.{NoPid, InfoTooLong, StrayInfo, Memory}
use Rattle.ax25_frames.specs.declared.control.Control.{Control}
use Rattle.ax25_frames.specs.declared.control.Control.TheVariants.{Info as InfoControl, Super as SuperControl}
use Rattle.ax25_frames.specs.declared.control.Control.TheVariants.{Unnumbered}
use Rattle.ax25_frames.specs.declared.control.Unnumbered.TheVariants.{Setup as SetupFrame, Ui as UiFrame}
use Rattle.ax25_frames.specs.declared.control.Unnumbered.TheVariants.{Other as OtherFrame}

abbrev pub Outcome : Type 0
Outcome = Result Kind FrameFault

-- the octets of the frame end at `end`, and its control field at `place`
abbrev pub verdict : ℕ → ℕ → Control → List ℕ → Outcome
verdict end place (InfoControl ns nr poll) [] = Err (NoPid end)
verdict end place (InfoControl ns nr poll) (pid ∷ octets) = if nat_le (length octets) 256
    then Ok (Info ns nr poll pid octets) else Err (InfoTooLong (length octets))
verdict end place (SuperControl which nr flag) [] = Ok (Super which nr flag)
verdict end place (SuperControl which nr flag) (x ∷ rest) = Err (StrayInfo place)
verdict end place (Unnumbered (SetupFrame which) flag) [] = Ok (Setup which flag)
verdict end place (Unnumbered (SetupFrame which) flag) (x ∷ rest) = Err (StrayInfo place)
verdict end place (Unnumbered UiFrame flag) [] = Err (NoPid end)
verdict end place (Unnumbered UiFrame flag) (pid ∷ octets) = Ok (Ui flag pid octets)
verdict end place (Unnumbered (OtherFrame which) flag) rest = Ok (Other which flag rest)

-- the answer is the verdict, or memory was not given for a frame
abbrev pub IsVerdict : Outcome → Outcome → Type 0
IsVerdict answer said = (answer ≡ said) ⊎ ((answer ≡ Err Memory) × IsOk said)

-- the answer is right but for want of memory, and there is no other
pub record IsOneKind (modulus : Modulus) (body : List ℕ) (start : ℕ) (answer : Outcome) : Type 0 where
  pub kind : IfOk answer (λ kind. IsKind modulus kind × (body ≡ body_octets modulus kind))
  pub fault : IfErr answer (λ fault. (fault ≡ Memory) ⊎ BodyFault modulus body start fault)
  pub each_kind : (kind : Kind) → IsKind modulus kind → body ≡ body_octets modulus kind
      → (answer ≡ Ok kind) ⊎ (answer ≡ Err Memory)
  pub each_fault : (fault : FrameFault) → BodyFault modulus body start fault → answer ≡ Err fault
