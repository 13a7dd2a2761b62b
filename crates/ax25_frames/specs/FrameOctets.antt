-- A frame in octets, after AX.25 2.2 section 3.1: its path, its control field, a PID in I and UI frames alone, and
-- information, which RR, RNR, REJ, SREJ, SABM, SABME, DISC, DM and UA do not have. An I frame has at most 256 octets of
-- it.
use Rattle.std.specs.Prelude.{◌≡◌, ℕ, ◌≤◌, List, [], ◌∷◌, ◌++◌, length, drop}
use Rattle.ax25_address.specs.FramePath.{BeginsWithPath, IsWrittenPath}
use Rattle.ax25_frames.specs.ControlField.{control_octets, IsNumbered}
use Rattle.ax25_frames.specs.declared.frame.Modulus.{Modulus}
use Rattle.ax25_frames.specs.declared.frame.Frame.{Frame}
use Rattle.ax25_frames.specs.declared.frame.Kind.{Kind}
use Rattle.ax25_frames.specs.declared.frame.Kind.TheVariants.{Info, Super, Setup, Ui, Other}
use Rattle.ax25_frames.specs.declared.control.Control.{Control}
use Rattle.ax25_frames.specs.declared.control.Control.TheVariants.{Info as InfoControl, Super as SuperControl}
use Rattle.ax25_frames.specs.declared.control.Control.TheVariants.{Unnumbered}
use Rattle.ax25_frames.specs.declared.control.Unnumbered.TheVariants.{Setup as SetupFrame, Ui as UiFrame}
use Rattle.ax25_frames.specs.declared.control.Unnumbered.TheVariants.{Other as OtherFrame}

-- the control field of a kind of frame
abbrev pub control_of : Kind → Control
control_of (Info ns nr poll pid octets) = InfoControl ns nr poll
control_of (Super which nr flag) = SuperControl which nr flag
control_of (Setup which flag) = Unnumbered (SetupFrame which) flag
control_of (Ui flag pid octets) = Unnumbered UiFrame flag
control_of (Other which flag octets) = Unnumbered (OtherFrame which) flag

-- what stands after the control field: the PID and the information
abbrev pub contents_of : Kind → List ℕ
contents_of (Info ns nr poll pid octets) = pid ∷ octets
contents_of (Super which nr flag) = []
contents_of (Setup which flag) = []
contents_of (Ui flag pid octets) = pid ∷ octets
contents_of (Other which flag octets) = octets

-- the information of a frame
abbrev pub information_of : Kind → List ℕ
information_of (Info ns nr poll pid octets) = octets
information_of (Super which nr flag) = []
information_of (Setup which flag) = []
information_of (Ui flag pid octets) = octets
information_of (Other which flag octets) = octets

-- an I frame's information is no longer than N1, which is 256 octets
abbrev pub FitsN1 : Kind → Type 0
FitsN1 (Info ns nr poll pid octets) = length octets ≤ 256
FitsN1 (Super which nr flag) = Unit {0}
FitsN1 (Setup which flag) = Unit {0}
FitsN1 (Ui flag pid octets) = Unit {0}
FitsN1 (Other which flag octets) = Unit {0}

-- the octets after the address of a frame
abbrev pub body_octets : Modulus → Kind → List ℕ
body_octets modulus kind = control_octets modulus (control_of kind) ++ contents_of kind

-- a kind of frame that the modulus has
pub record IsKind (modulus : Modulus) (kind : Kind) : Type 0 where
  pub numbered : IsNumbered modulus (control_of kind)
  pub fits : FitsN1 kind

-- octets that are read as a frame
pub record IsFrame (frame : Frame) (modulus : Modulus) (octets : List ℕ) : Type 0 where
  pub len : ℕ
  pub path : BeginsWithPath octets frame.path len
  pub kind : IsKind modulus frame.kind
  pub body : drop len octets ≡ body_octets modulus frame.kind

-- the octets that are written for a frame
pub record IsWrittenFrame (frame : Frame) (modulus : Modulus) (octets : List ℕ) : Type 0 where
  pub address : List ℕ
  pub path : IsWrittenPath frame.path address
  pub spelling : octets ≡ address ++ body_octets modulus frame.kind

-- a frame that may be written: as this project has it, with at most 937 octets of information outside an I frame
pub record CanWrite (modulus : Modulus) (frame : Frame) : Type 0 where
  pub kind : IsKind modulus frame.kind
  pub room : length (information_of frame.kind) ≤ 937
