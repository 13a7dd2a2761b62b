-- What contracts see of the line to rigctld: each connection, with what was written on it and what came, in order. With
-- each command stands how many octets the output had by then, so commands and samples are in one order.
use Rattle.std.specs.Prelude.{ℕ, ◌||◌, not, Bool, true, false, if◌then◌else◌, List, [], ◌∷◌, ◌++◌}
use Rattle.std.specs.Prelude.{reverse}
use Rattle.std.specs.Prelude.{Option, Some, None}
use Rattle.keying.specs.declared.command.Command.{Command}
use Rattle.keying.specs.declared.command.Command.TheVariants.{Release, Key, KeyData}
use Rattle.keying.specs.declared.line.End.{End}
use Rattle.keying.specs.declared.line.End.TheVariants.{Closed, Fault}
use Rattle.key_port.specs.declared.key_records.KeyStep.{KeyStep}
use Rattle.key_port.specs.declared.key_records.KeyStep.TheVariants.{Wrote, Read}

-- a connection
pub record KeyLine : Type 0 where
  pub port : ℕ
  -- the commands that were written whole, and the octets that came, in order
  pub steps : List KeyStep
  -- the daemon was seen to have closed it
  pub ended : Bool
  -- it was given up
  pub dropped : Bool

-- what a line tells: the connections so far, if it tells them, and how often a call of it has failed
pub record LineTold : Type 0 where
  pub lines : Option (List KeyLine)
  pub faults : ℕ

abbrev pub new_line : ℕ → KeyLine
new_line port = record { port = port; steps = []; ended = false; dropped = false }

-- the connections, the last of them changed
abbrev pub with_last : (KeyLine → KeyLine) → List KeyLine → List KeyLine
with_last change [] = []
with_last change (line ∷ []) = change line ∷ []
with_last change (line ∷ next ∷ lines) = line ∷ with_last change (next ∷ lines)

-- whether there is a connection now: the last one, if it was not given up
abbrev pub is_open : List KeyLine → Bool
is_open [] = false
is_open (line ∷ []) = not line.dropped
is_open (line ∷ next ∷ lines) = is_open (next ∷ lines)

-- ---- the commands on a connection

-- whether a command keys
abbrev pub keys : Command → Bool
keys Release = false
keys Key = true
keys KeyData = true

-- the commands among these steps, in order: whether each one keys
abbrev pub commands_in : List KeyStep → List Bool
commands_in [] = []
commands_in (Wrote command had ∷ steps) = keys command ∷ commands_in steps
commands_in (Read now octets ∷ steps) = commands_in steps

-- the commands on the connection that is there now, the newest first; none if the last one was given up
abbrev pub open_commands : List KeyLine → List Bool
open_commands [] = []
open_commands (line ∷ []) = if line.dropped then [] else reverse (commands_in line.steps)
open_commands (line ∷ next ∷ lines) = open_commands (next ∷ lines)

-- ---- how each call changes the line

-- a command is written whole, when the output has so many octets
abbrev pub after_write : Command → ℕ → KeyLine → KeyLine
after_write command had line = record line { steps = line.steps ++ Wrote command had ∷ [] }

abbrev pub steps_read : ℕ → List ℕ → List KeyStep
steps_read now [] = []
steps_read now (octet ∷ octets) = Read now (octet ∷ octets) ∷ []

abbrev pub is_closed : Option End → Bool
is_closed None = false
is_closed (Some Closed) = true
is_closed (Some Fault) = false

-- these octets are read at this time in ms, and reading ends so
abbrev pub after_read : ℕ → List ℕ → Option End → KeyLine → KeyLine
after_read now octets end line = record line {
  steps = line.steps ++ steps_read now octets;
  ended = line.ended || is_closed end;
}

-- it is given up
abbrev pub after_drop : KeyLine → KeyLine
after_drop line = record line { dropped = true }

-- a connection is begun; one that is there is given up
abbrev pub after_connect : ℕ → List KeyLine → List KeyLine
after_connect port lines = with_last after_drop lines ++ new_line port ∷ []
