-- What contracts see of a line in memory, whose calls go as a script says.
use Rattle.std.specs.Prelude.{ℕ, ◌+◌, ◌==◌, ◌^◌, ◌-◌, min, if◌then◌else◌, List, [], ◌∷◌, Option}
use Rattle.std.specs.Prelude.{Some, None}
use Rattle.key_port.specs.declared.mem_key.KeyOutcome.{KeyOutcome}
use Rattle.key_port.specs.KeyLines.{KeyLine}

pub record KeyPortView : Type 0 where
  -- how the calls of connect, read, open and write of these numbers go, counted together from 0; any other goes well, and
  -- brings nothing
  pub script : List (ℕ × KeyOutcome)
  -- by how many ms each look at the clock finds it later
  pub pace : ℕ
  -- the number of the next call
  pub calls : ℕ
  pub time : ℕ
  pub faults : ℕ
  pub lines : List KeyLine

-- a line that no call has used
abbrev pub new_key : List (ℕ × KeyOutcome) → ℕ → KeyPortView
new_key script pace = record { script = script; pace = pace; calls = 0; time = 0; faults = 0; lines = [] }

-- how the call of a number goes
abbrev pub scripted : ℕ → List (ℕ × KeyOutcome) → Option KeyOutcome
scripted call [] = None
scripted call (entry ∷ script) = if entry.0 == call then Some entry.1 else scripted call script

-- a clock that has run on; it stops at the greatest number of 64 bits
abbrev pub later : ℕ → ℕ → ℕ
later pace time = min (time + pace) (2 ^ 64 - 1)
