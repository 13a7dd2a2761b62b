-- Why octets are no frame, after AX.25 2.2 sections 3.1 and 4.2: the first fault in the order of address, control
-- field, PID and what follows. Places are counted from 0.
use Rattle.std.specs.Prelude.{◌≡◌, ℕ, ◌+◌, ◌<◌, Bool, List, ◌∷◌, ◌++◌, length, drop}
use Rattle.ax25_address.specs.FramePath.{BeginsWithPath}
use Rattle.ax25_address.specs.PathFault.{ShowsFault}
use Rattle.ax25_address.specs.declared.path.Path.{Path}
use Rattle.ax25_frames.specs.ControlField.{control_octets, IsNumbered}
use Rattle.ax25_frames.specs.declared.frame.Modulus.{Modulus}
use Rattle.ax25_frames.specs.declared.control.Control.{Control}
use Rattle.ax25_frames.specs.declared.control.Control.TheVariants.{Info, Super, Unnumbered}
use Rattle.ax25_frames.specs.declared.control.Unnumbered.TheVariants.{Setup, Ui, Other}
use Rattle.ax25_frames.specs.declared.fault.FrameFault.{FrameFault}
use Rattle.ax25_frames.specs.declared.fault.FrameFault.TheVariants.{Address, NoControl, NoPid, UnknownControl}
use Rattle.ax25_frames.specs.declared.fault.FrameFault.TheVariants.{InfoTooLong, StrayInfo, Memory}

-- a PID stands after this control field: in I and UI frames
abbrev pub HasPid : Control → Type 0
HasPid (Info ns nr poll) = Unit {0}
HasPid (Super which nr flag) = ⊥
HasPid (Unnumbered (Setup which) flag) = ⊥
HasPid (Unnumbered Ui flag) = Unit {0}
HasPid (Unnumbered (Other which) flag) = ⊥

-- nothing stands after this control field: in S frames and those that set up and end a link
abbrev pub EndsFrame : Control → Type 0
EndsFrame (Info ns nr poll) = ⊥
EndsFrame (Super which nr flag) = Unit {0}
EndsFrame (Unnumbered (Setup which) flag) = Unit {0}
EndsFrame (Unnumbered Ui flag) = ⊥
EndsFrame (Unnumbered (Other which) flag) = ⊥

-- octets that begin a control field and lack its end
pub record LacksControl (modulus : Modulus) (body : List ℕ) : Type 0 where
  pub control : Control
  pub numbered : IsNumbered modulus control
  pub missing : List ℕ
  pub some : 0 < length missing
  pub spelling : control_octets modulus control ≡ body ++ missing

-- a control field that wants a PID, and nothing after it
pub record LacksPid (modulus : Modulus) (body : List ℕ) : Type 0 where
  pub control : Control
  pub numbered : IsNumbered modulus control
  pub wanted : HasPid control
  pub spelling : body ≡ control_octets modulus control

-- an octet that begins no control field
pub record BeginsUnknown (modulus : Modulus) (body : List ℕ) (octet : ℕ) : Type 0 where
  pub rest : List ℕ
  pub first : body ≡ octet ∷ rest
  pub unknown : (control : Control) (more : List ℕ) → IsNumbered modulus control
      → control_octets modulus control ≡ octet ∷ more → ⊥

-- an I frame with more information than N1 allows
pub record IsTooLong (modulus : Modulus) (body : List ℕ) (len : ℕ) : Type 0 where
  pub ns : ℕ
  pub nr : ℕ
  pub poll : Bool
  pub pid : ℕ
  pub information : List ℕ
  pub numbered : IsNumbered modulus (Info ns nr poll)
  pub spelling : body ≡ control_octets modulus (Info ns nr poll) ++ pid ∷ information
  pub count : len ≡ length information
  pub long : 256 < len

-- information after a control field that has none, from octet `at` of all octets on
pub record HasStray (modulus : Modulus) (body : List ℕ) (place : ℕ) : Type 0 where
  pub control : Control
  pub numbered : IsNumbered modulus control
  pub ends : EndsFrame control
  pub stray : List ℕ
  pub some : 0 < length stray
  pub spelling : body ≡ control_octets modulus control ++ stray
  pub here : place ≡ length (control_octets modulus control)

-- the fault that what stands after the address shows, if the address has `start` octets
abbrev pub BodyFault : Modulus → List ℕ → ℕ → FrameFault → Type 0
BodyFault modulus body start (Address fault) = ⊥
BodyFault modulus body start (NoControl at) = (at ≡ start + length body) × LacksControl modulus body
BodyFault modulus body start (NoPid at) = (at ≡ start + length body) × LacksPid modulus body
BodyFault modulus body start (UnknownControl octet) = BeginsUnknown modulus body octet
BodyFault modulus body start (InfoTooLong len) = IsTooLong modulus body len
BodyFault modulus body start (StrayInfo at) = (place : ℕ) × (at ≡ start + place) × HasStray modulus body place
BodyFault modulus body start Memory = ⊥

-- the octets begin with a path, and what stands after it shows the fault
pub record FollowsPath (modulus : Modulus) (octets : List ℕ) (fault : FrameFault) : Type 0 where
  pub path : Path
  pub len : ℕ
  pub begins : BeginsWithPath octets path len
  pub shows : BodyFault modulus (drop len octets) len fault

-- the fault that the octets show
abbrev pub ShowsFrameFault : Modulus → List ℕ → FrameFault → Type 0
ShowsFrameFault modulus octets (Address fault) = ShowsFault octets fault
ShowsFrameFault modulus octets fault = FollowsPath modulus octets fault
