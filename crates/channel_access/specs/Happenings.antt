-- What has come to pass at a channel so far, as a history: a list of what happened, the newest first.
use Rattle.std.specs.Prelude.{Bool}

pub data Happening : Type 0 where
  -- a frame was heard; whether it was an event of one of the station's links
  Heard : (ours : Bool) → Happening
  -- a tick passed: whether another station was heard, whether a transmission of the station's own began with it, and
  -- whether one was on the air in it
  Ticked : (busy : Bool) → (began : Bool) → (own : Bool) → Happening
