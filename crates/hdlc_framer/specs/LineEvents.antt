-- What the next bit ends, as the kept line tells it. No public clause cites it.
use Rattle.std.specs.Prelude.{◌≡◌, ◌≢◌, ℕ, Bool, true, false, Some, List, ◌++◌}
use Rattle.hdlc_framer.specs.declared.event.Event.{Event}
use Rattle.hdlc_framer.specs.declared.event.Event.TheVariants.{None as NoEvent, Flag, Abort, Frame}
use Rattle.hdlc_framer.specs.BitOrder.{sent_bits}
use Rattle.hdlc_framer.specs.Frames.{IsFrame, with_fcs}
use Rattle.hdlc_framer.specs.Held.{Line, flag_start}

-- the content of a line is a frame and the first bits of a flag
pub record ClosesFrame (line : Line) (octets : List ℕ) : Type 0 where
  pub content : line.content ≡ Some (sent_bits (with_fcs octets) ++ flag_start)
  pub frame : IsFrame octets

-- a 0 now ends a flag
pub record EndsOnZero (line : Line) : Type 0 where
  pub six : line.ones ≡ 6
  pub after_zero : line.after_zero ≡ true

-- the event of a bit, as a line tells it
abbrev pub LineEvent : Line → Bool → Event → Type 0
LineEvent line true Abort = line.ones ≡ 6
LineEvent line true NoEvent = line.ones ≢ 6
LineEvent line true Flag = ⊥
LineEvent line true Frame = ⊥
LineEvent line false Frame = EndsOnZero line × ((octets : List ℕ) × ClosesFrame line octets)
LineEvent line false Flag = EndsOnZero line × ((octets : List ℕ) → ¬ ClosesFrame line octets)
LineEvent line false NoEvent = ¬ EndsOnZero line
LineEvent line false Abort = ⊥
