-- What happens on the line and to the key, as a history: a list of marks, the newest first.
use Rattle.std.specs.Prelude.{ℕ, Bool}
use Rattle.keying.specs.declared.report.Why.{Why}
use Rattle.keying.specs.declared.report.OffWhy.{OffWhy}

pub data Mark : Type 0 where
  -- a turn of the station begins, at this time in ms
  Turned : (now : ℕ) → Mark
  -- a connection is begun
  Tried : Mark
  -- a release is written on it, as its first command
  Opened : Mark
  -- a keying command is written
  Keyed : Mark
  -- a later release is written
  Released : Mark
  -- an octet came on the line
  Heard : (octet : ℕ) → Mark
  -- the oldest command without an answer is accepted
  Accepted : Mark
  -- the line is ready, which is reported
  Readied : Mark
  -- the connection is lost
  Lost : (why : Why) → Mark
  -- the 96 samples of a tick are made and written; whether some of them is not 0
  Ticked : (sounds : Bool) → Mark
  -- the transmission is cut off, which is reported
  Cut : (why : OffWhy) → Mark
  -- a write of the output or of the report failed
  WriteFault : Mark
  -- the run ends
  Ends : Mark
