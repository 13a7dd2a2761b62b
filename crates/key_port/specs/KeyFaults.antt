-- The failures among the events that are faults of the line.
use Rattle.std.specs.Prelude.{Bool, true, false, ◌||◌, List, [], ◌∷◌, Option, Some, None}
use Rattle.keying.specs.declared.line.End.{End}
use Rattle.keying.specs.declared.line.End.TheVariants.{Closed, Fault}
use Rattle.keying.specs.Calls.{Call}
use Rattle.keying.specs.Calls.Call.{Turn, Release}
use Rattle.key_port.specs.KeyEvents.{KeyEvent}
use Rattle.key_port.specs.KeyEvents.KeyEvent.{Called, NotBegun, NotWritten}

abbrev pub is_fault : Option End → Bool
is_fault None = false
is_fault (Some Closed) = false
is_fault (Some Fault) = true

-- a read that failed
abbrev pub reads_fault : Call → Bool
reads_fault (Turn now octets end) = is_fault end
reads_fault (Release now octets end) = is_fault end
reads_fault _ = false

-- a read that failed, a connection that could not be begun, or a command that was not written whole
abbrev pub has_failed : List KeyEvent → Bool
has_failed [] = false
has_failed (Called call ∷ events) = reads_fault call || has_failed events
has_failed (NotBegun ∷ events) = true
has_failed (NotWritten ∷ events) = true
has_failed (_ ∷ events) = has_failed events
