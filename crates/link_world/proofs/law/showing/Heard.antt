-- A frame as an end hears it.
use Rattle.link_world.proofs.Common.{Path, Kind, Frame, Sent, sent_kind, Tagged}
use Rattle.std.specs.Prelude.{ℕ, Bool}

-- what comes with a frame: its path, its modulus, its sender's set-up, and whether it answers a SABM, SABME or DISC
pub record Arrival : Type 0 where
  pub path : Path
  pub modulus : ℕ
  pub set_up : ℕ
  pub answers : Bool

-- with this frame
abbrev pub arrival_of : Frame → Tagged → Arrival
arrival_of frame f = record { path = frame.path; modulus = f.modulus; set_up = f.set_up; answers = f.answers }

-- a frame as it is read
abbrev pub heard_as : Arrival → Kind → Sent → Tagged
heard_as a kind sent = record {
  frame = record { path = a.path; kind = kind };
  modulus = a.modulus;
  sent = sent;
  set_up = a.set_up;
  answers = a.answers;
}

-- and as it was written
abbrev pub heard_frame : Arrival → Sent → Tagged
heard_frame a sent = heard_as a (sent_kind a.modulus sent) sent
