-- What the last of the bits ends (AX.25 2.2 sections 3.1, 3.9 and 3.10, ISO/IEC 3309).
use Rattle.std.specs.Prelude.{ℕ, Bool, List}
use Rattle.hdlc_framer.specs.declared.event.Event.{Event}
use Rattle.hdlc_framer.specs.declared.event.Event.TheVariants.{None as NoEvent, Flag, Abort, Frame}
use Rattle.hdlc_framer.specs.Frames.{EndsFrame, EndsFlag, EndsAbort}

-- The event of the last bit. The four exclude each other, so each comes exactly when its own line holds.
abbrev pub EventAt : List Bool → Event → Type 0
EventAt bits Frame = (octets : List ℕ) × EndsFrame bits octets
EventAt bits Flag = EndsFlag bits × ((octets : List ℕ) → ¬ EndsFrame bits octets)
EventAt bits Abort = EndsAbort bits
EventAt bits NoEvent = (¬ EndsFlag bits) × (¬ EndsAbort bits)
