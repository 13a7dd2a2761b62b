-- The frames that a link sends, with their true numbers, and how each is written: on the link's path, in its role, and
-- with its numbers modulo the modulus (AX.25 2.2 sections 4.2 and 6.1.2).
use Rattle.std.specs.Prelude.{ℕ, ◌%◌, Bool, if◌then◌else◌, List, map}
use Rattle.ax25_address.specs.declared.path.Path.{Path}
use Rattle.ax25_address.specs.declared.path.Role.{Role}
use Rattle.ax25_address.specs.declared.path.Role.TheVariants.{Command, Response}
use Rattle.ax25_frames.specs.declared.frame.Frame.{Frame}
use Rattle.ax25_frames.specs.declared.frame.Kind.{Kind}
use Rattle.ax25_frames.specs.declared.frame.Kind.TheVariants.{Info, Super, Setup, Other}
use Rattle.ax25_frames.specs.declared.frame.S.{S}
use Rattle.ax25_frames.specs.declared.frame.U.{U}
use Rattle.ax25_frames.specs.declared.frame.W.TheVariants.{Xid}
use Rattle.ax25_frames.specs.FrameOctets.{CanWrite}
use Rattle.ax25_frames.specs.FrameText.{sets_up_or_ends}
use Rattle.selective_reject.specs.declared.packet.Packet.{Packet}
use Rattle.xid_parameters.specs.declared.parameters.LinkParameters.{LinkParameters}
use Rattle.xid_parameters.specs.Told.{parameters_of}
use Rattle.xid_parameters.specs.XidField.{group_octets, with_head}
use Rattle.link_machine.specs.declared.acts.SentFrame.{SentFrame}
use Rattle.link_machine.specs.Machine.{modulus_named}

pub data Sent : Type 0 where
  -- an I frame: its number, N(R), P, and the packet
  InfoSent : (number nr : ℕ) → (poll : Bool) → (packet : Packet) → Sent
  -- an S frame: which one, whether it is a command, N(R), and P or F
  SuperSent : (which : S) → (command : Bool) → (nr : ℕ) → (flag : Bool) → Sent
  -- SABM, SABME, DISC, UA or DM, and P or F
  SetupSent : (which : U) → (flag : Bool) → Sent
  -- XID: whether it is a command, P or F, and the parameters that it tells
  XidSent : (command flag : Bool) → (own : LinkParameters) → Sent

-- a frame, and the modulus in which it is sent: that of the link when it sends it
pub record SentIn : Type 0 where
  pub modulus : ℕ
  pub frame : Sent

abbrev pub sent_in : ℕ → Sent → SentIn
sent_in modulus frame = record { modulus = modulus; frame = frame }

abbrev pub all_sent_in : ℕ → List Sent → List SentIn
all_sent_in modulus frames = map (sent_in modulus) frames

abbrev pub role_of : Bool → Role
role_of command = if command then Command else Response

-- an I frame is a command, and so are SABM, SABME and DISC; UA and DM are responses
abbrev pub sent_role : Sent → Role
sent_role (InfoSent number nr poll packet) = Command
sent_role (SuperSent which command nr flag) = role_of command
sent_role (SetupSent which flag) = role_of (sets_up_or_ends which)
sent_role (XidSent command flag own) = role_of command

-- the information of an XID frame
abbrev pub xid_octets : LinkParameters → List ℕ
xid_octets own = with_head (group_octets (parameters_of own))

abbrev pub sent_kind : ℕ → Sent → Kind
sent_kind modulus (InfoSent number nr poll packet) = Info (number % modulus) (nr % modulus) poll packet.pid packet.octets
sent_kind modulus (SuperSent which command nr flag) = Super which (nr % modulus) flag
sent_kind modulus (SetupSent which flag) = Setup which flag
sent_kind modulus (XidSent command flag own) = Other Xid flag (xid_octets own)

-- the frame as it is written
abbrev pub frame_of : ℕ → Path → Sent → Frame
frame_of modulus path sent = record { path = record path { role = sent_role sent }; kind = sent_kind modulus sent }

abbrev pub sent_frame : Path → SentIn → SentFrame
sent_frame path sent = record { frame = frame_of sent.modulus path sent.frame; modulus = modulus_named sent.modulus }

abbrev pub sent_frames : Path → List SentIn → List SentFrame
sent_frames path sent = map (sent_frame path) sent

-- the frame can be written in its modulus
abbrev pub IsWritable : SentFrame → Type 0
IsWritable sent = CanWrite sent.modulus sent.frame
