-- A run of a command that makes one text of its input and ends: what stands on its output and its report at each
-- status.
use Rattle.std.specs.Prelude.{◌≡◌, ℕ, ⊤, ◌+◌, List, [], drop, Option, Some, None}
use Rattle.tnc_words.specs.declared.command.Command.{Command}
use Rattle.tnc_words.specs.Commands.{Asks}
use Rattle.tnc_forms.specs.declared.fault.InputFault.{InputFault}
use Rattle.tnc_forms.specs.declared.fault.InputFault.TheVariants.{TooLong}
use Rattle.tnc_forms.specs.Reading.{input_limit}
use Rattle.tnc_main.specs.declared.status.Status.{Status}
use Rattle.tnc_main.specs.declared.status.Status.TheVariants.{Done, BadWords, BadInput, Memory, ReadFault, WriteFault}
use Rattle.tnc_main.specs.declared.status.Status.TheVariants.{Stray, NotQuiet, Spent, NoPort, NoHost, Refused}
use Rattle.tnc_main.specs.declared.status.Status.TheVariants.{HostLost, HostBroke, GaveUp}
use Rattle.tnc_main.specs.declared.stop.Stop.{Stop}
use Rattle.tnc_main.specs.Commands.{FindsNoQuiet, IsSpent, Makes, Reads, Strays, fault_of}
use Rattle.tnc_main.specs.Parts.{Begins, HasAtMemory, HasAtWriteFault, MakesAtReadFault, MakesAtStray, MakesBefore}
use Rattle.tnc_main.specs.Parts.{MakesPart}
use Rattle.tnc_main.specs.Report.{input_line, line_of, not_quiet_line, spent_line, stray_line}
use Rattle.tnc_main.specs.Status.{code_of}
use Rattle.tnc_main.specs.Stops.{IsStopOf}

-- The words ask for nothing.
abbrev pub AskNothing : List (List ℕ) → Type 0
AskNothing words = (command : Command) → ¬ Asks words command

-- The words ask for a command, which has these octets to read of those that its input has left, and it ends with a
-- code.
pub record Job (words : List (List ℕ)) (left : Option (List ℕ)) (code : ℕ) : Type 0 where
  pub command : Command
  pub octets : List ℕ
  pub status : Status
  pub asked : Asks words command
  pub reads : Reads command left octets
  pub ends : code ≡ code_of status

-- What a run leaves of its input when it ends with a status: nothing, or what stands past the first octet too many.
abbrev pub Leaves : Command → List ℕ → Status → Option (List ℕ) → Type 0
Leaves command octets Done left = Reads command left []
Leaves command octets BadWords left = ⊥
Leaves command octets BadInput left = fault_of command octets ≡ Some TooLong
    → Reads command left (drop (input_limit + 1) octets)
Leaves command octets Memory left = ⊤
Leaves command octets ReadFault left = ⊤
Leaves command octets WriteFault left = ⊤
Leaves command octets Stray left = ⊤
Leaves command octets NotQuiet left = ⊤
Leaves command octets Spent left = ⊤
Leaves command octets NoPort left = ⊥
Leaves command octets NoHost left = ⊥
Leaves command octets Refused left = ⊥
Leaves command octets HostLost left = ⊥
Leaves command octets HostBroke left = ⊥
Leaves command octets GaveUp left = ⊥

-- The text is what a run adds to its output when it ends with a status and has this left of its input.
abbrev pub Writes : Command → List ℕ → Option (List ℕ) → Status → List ℕ → Type 0
Writes command octets left Done text = Makes command octets text
Writes command octets left BadWords text = ⊥
Writes command octets left BadInput text = MakesBefore command octets text
Writes command octets left Memory text = MakesPart command octets text × HasAtMemory command octets left text
Writes command octets left ReadFault text = MakesPart command octets text × MakesAtReadFault command octets left text
Writes command octets left WriteFault text = MakesPart command octets text × HasAtWriteFault command octets left text
Writes command octets left Stray text = MakesAtStray command octets text
Writes command octets left NotQuiet text = text ≡ []
Writes command octets left Spent text = text ≡ []
Writes command octets left NoPort text = ⊥
Writes command octets left NoHost text = ⊥
Writes command octets left Refused text = ⊥
Writes command octets left HostLost text = ⊥
Writes command octets left HostBroke text = ⊥
Writes command octets left GaveUp text = ⊥

-- Why a run ends with a status, if that lies in the octets or in what the command sent to itself.
abbrev pub IsCaused : Command → List ℕ → Status → Type 0
IsCaused command octets Done = fault_of command octets ≡ None
IsCaused command octets BadWords = ⊥
IsCaused command octets BadInput = (fault : InputFault) × (fault_of command octets ≡ Some fault)
IsCaused command octets Memory = ⊤
IsCaused command octets ReadFault = ⊤
IsCaused command octets WriteFault = ⊤
IsCaused command octets Stray = (frame : List ℕ) × Strays command frame
IsCaused command octets NotQuiet = (index : ℕ) × FindsNoQuiet command index
IsCaused command octets Spent = (ticks : ℕ) × IsSpent command ticks
IsCaused command octets NoPort = ⊥
IsCaused command octets NoHost = ⊥
IsCaused command octets Refused = ⊥
IsCaused command octets HostLost = ⊥
IsCaused command octets HostBroke = ⊥
IsCaused command octets GaveUp = ⊥

-- The line is what a run adds to its report when it ends with a status: it names the cause, which is there.
abbrev pub Tells : Command → List ℕ → Status → List ℕ → Type 0
Tells command octets Done line = line ≡ []
Tells command octets BadWords line = ⊥
Tells command octets BadInput line = (fault : InputFault) × (fault_of command octets ≡ Some fault)
    × (line ≡ input_line fault)
Tells command octets Memory line = line ≡ []
Tells command octets ReadFault line = line ≡ []
Tells command octets WriteFault line = (stop : Stop) × IsStopOf command octets stop × Begins line (line_of stop)
Tells command octets Stray line = (frame : List ℕ) × Strays command frame × (line ≡ stray_line frame)
Tells command octets NotQuiet line = (index : ℕ) × FindsNoQuiet command index × (line ≡ not_quiet_line index)
Tells command octets Spent line = (ticks : ℕ) × IsSpent command ticks × (line ≡ spent_line ticks)
Tells command octets NoPort line = ⊥
Tells command octets NoHost line = ⊥
Tells command octets Refused line = ⊥
Tells command octets HostLost line = ⊥
Tells command octets HostBroke line = ⊥
Tells command octets GaveUp line = ⊥
