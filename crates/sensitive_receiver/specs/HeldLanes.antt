-- What the added lanes keep of samples, and what that stands for.
use Rattle.std.specs.Prelude.{◌≡◌, ℕ, ℤ, List, length, Bool}
use Rattle.hdlc_framer.specs.Frames.{EndsFrame}
use Rattle.hdlc_framer.specs.Held.{HoldsFrame}
use Rattle.tone_tracking.specs.HeldLine.{HeldLine, HasTaken as LineHasTaken}
use Rattle.sensitive_receiver.specs.FiveBanks.{AreAt, HaveRead, HeldBanks}
use Rattle.sensitive_receiver.specs.Lanes.{added_places}
pub use Rattle.sensitive_receiver.specs.LateLanes.{HeldLane, LaneStandsFor}

-- a frame ends with the bits, and the lane holds whatever frame that is
pub record HoldsFrameOf (held : HeldLane) (bits : List Bool) : Type 0 where
  pub octets : List ℕ
  pub ends : EndsFrame bits octets
  pub holds : (frame : List ℕ) → EndsFrame bits frame → HoldsFrame held.deframer frame

-- how many samples were taken, the line of tones, and the five banks of lanes
pub record HeldBank : Type 0 where
  pub position : ℕ
  pub line : HeldLine
  pub banks : HeldBanks

-- a bank with this line, which has counted the samples
abbrev pub bank_of : HeldLine → HeldBanks → HeldBank
bank_of line banks = record { position = line.count; line = line; banks = banks }

-- the bank has taken these samples
pub record StandsFor (held : HeldBank) (x : List ℤ) : Type 0 where
  pub position : held.position ≡ length x
  pub line : LineHasTaken held.line x
  pub at : AreAt (added_places (length x)) held.banks
  pub read : HaveRead held.banks x
