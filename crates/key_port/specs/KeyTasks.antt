-- What a key on its line has still to do, and how the line and its faults go with what it does.
use Rattle.std.specs.Prelude.{◌≡◌, ℕ, ◌+◌, Bool, true, false, List, [], ◌++◌, length, Option, Some, option_map, All}
use Rattle.keying.specs.declared.machine.Words.{Words}
use Rattle.keying.specs.declared.report.Report.{Report}
use Rattle.keying.specs.Kept.{StandsFor}
use Rattle.keying.specs.Key.{Key}
use Rattle.tnc_base.specs.Faults.{HasRisen}
use Rattle.key_port.specs.KeyLines.{KeyLine, LineTold, with_last, after_drop}
use Rattle.key_port.specs.KeyEvents.{KeyEvent, Task, Obeys, marks_of, lines_of, to_do, reports_of}
use Rattle.key_port.specs.KeyCalls.{FollowsUp, StandsAt}
use Rattle.key_port.specs.KeyFaults.{has_failed}

-- the machine stands for these events, each of which does what those before it ask for; these tasks are left
pub record IsDoing (words : Words) (tasks : List Task) (events : List KeyEvent) (key : Key) : Type 0 where
  pub stands : StandsFor words (marks_of words events) key
  pub obeys : Obeys words events
  pub left : to_do words events ≡ tasks

-- ---- the line

-- an output tells that it has so many octets
pub record HasOctets (written : Option (List ℕ)) (count : ℕ) : Type 0 where
  pub out : List ℕ
  pub is : written ≡ Some out
  pub size : length out ≡ count

-- Connections that were those of some events are those of later events, if the run has written so many octets of its
-- output.
abbrev pub LineGoes : ℕ → ℕ → Option (List ℕ) → List KeyEvent → List KeyEvent → Option (List KeyLine)
    → Option (List KeyLine) → Type 0
LineGoes port octets written events later before after =
    (start : ℕ) (was : Option (List KeyLine)) → HasOctets written (start + octets)
    → before ≡ option_map (λ lines. lines_of port start lines events) was
    → after ≡ option_map (λ lines. lines_of port start lines later) was

-- a fault is counted exactly if something failed
abbrev pub CountsIf : Bool → ℕ → ℕ → Type 0
CountsIf true before after = HasRisen before after
CountsIf false before after = after ≡ before

-- A count that told of the failures among some events tells of those among later events.
abbrev pub FaultsGo : List KeyEvent → List KeyEvent → ℕ → ℕ → Type 0
FaultsGo events later before after =
    (start : ℕ) → CountsIf (has_failed events) start before → CountsIf (has_failed later) start after

-- ---- the tasks that are left

-- All tasks that are left after these events are done. What is done for them stands on the line, with each command
-- where the run has written so many octets of its output, and this is reported of it.
pub record DoesTasks (words : Words) (port octets : ℕ) (written : Option (List ℕ)) (events : List KeyEvent)
    (reported : List Report) (key : Key) (before after : LineTold) : Type 0 where
  pub more : List KeyEvent
  pub new : List KeyEvent
  pub is : new ≡ more ++ events
  pub follow : All FollowsUp more
  pub order : All (StandsAt octets) more
  pub done : IsDoing words [] new key
  pub told : reports_of words new ≡ reports_of words events ++ reported
  pub line : LineGoes port octets written events new before.lines after.lines
  pub faults : FaultsGo events new before.faults after.faults

-- the connection is given up, if it is lost
abbrev pub lines_given_up : Bool → Option (List KeyLine) → Option (List KeyLine)
lines_given_up true lines = option_map (with_last after_drop) lines
lines_given_up false lines = lines
