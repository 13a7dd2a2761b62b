-- A frame in flight from one link to the other, with what its receiver never sees (AX.25 2.2 sections 4.2 and 4.3).
use Rattle.std.specs.Prelude.{ℕ, ◌-◌, Bool, true, false, not, List, count_by}
use Rattle.ax25_frames.specs.declared.frame.Frame.{Frame}
use Rattle.ax25_frames.specs.declared.frame.Kind.{Kind}
use Rattle.ax25_frames.specs.declared.frame.Kind.TheVariants.{Info, Super, Setup, Ui, Other}
use Rattle.ax25_frames.specs.FrameText.{sets_up_or_ends}
use Rattle.link_machine.specs.declared.state.LinkState.{LinkState}
use Rattle.link_machine.specs.declared.state.LinkState.TheVariants.{Idle, Calling, Up, Releasing}
use Rattle.link_machine.specs.Sent.{Sent}

pub record Tagged : Type 0 where
  -- the frame, and the modulus in which it is written: that of its sender's set-up
  pub frame : Frame
  pub modulus : ℕ
  -- the same with its true N(S) and N(R), counted from 0 in each set-up
  pub sent : Sent
  -- which set-up of its sender it belongs to, counted from 0
  pub set_up : ℕ
  -- whether it is a UA or DM that was sent on hearing a SABM, SABME or DISC
  pub answers : Bool

-- SABM, SABME and DISC ask for an answer
abbrev pub asks : Kind → Bool
asks (Info ns nr flag pid octets) = false
asks (Super which nr flag) = false
asks (Setup which flag) = sets_up_or_ends which
asks (Ui flag pid octets) = false
asks (Other which flag octets) = false

-- UA and DM
abbrev pub is_answer : Kind → Bool
is_answer (Info ns nr flag pid octets) = false
is_answer (Super which nr flag) = false
is_answer (Setup which flag) = not (sets_up_or_ends which)
is_answer (Ui flag pid octets) = false
is_answer (Other which flag octets) = false

-- I and S frames
abbrev pub is_numbered : Kind → Bool
is_numbered (Info ns nr flag pid octets) = true
is_numbered (Super which nr flag) = true
is_numbered (Setup which flag) = false
is_numbered (Ui flag pid octets) = false
is_numbered (Other which flag octets) = false

-- The set-up that an unnumbered frame belongs to, of an end that has had so many: the running one if the end is up,
-- and else the one that it would open next.
abbrev pub set_up_now : LinkState → ℕ → ℕ
set_up_now Idle count = count
set_up_now Calling count = count
set_up_now Up count = count - 1
set_up_now Releasing count = count

-- An I or S frame belongs to the last one. A link sends it only while it is up, though the same event may then end the
-- set-up.
abbrev pub set_up_of : Kind → LinkState → ℕ → ℕ
set_up_of (Info ns nr flag pid octets) state count = count - 1
set_up_of (Super which nr flag) state count = count - 1
set_up_of (Setup which flag) state count = set_up_now state count
set_up_of (Ui flag pid octets) state count = set_up_now state count
set_up_of (Other which flag octets) state count = set_up_now state count

-- how many SABM, SABME and DISC are among the frames, and how many answers to one
abbrev pub asks_in : List Tagged → ℕ
asks_in frames = count_by (λ (f : Tagged). asks f.frame.kind) frames

abbrev pub answers_in : List Tagged → ℕ
answers_in frames = count_by (λ (f : Tagged). f.answers) frames
