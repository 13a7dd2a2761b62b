-- What can stop a command.
use Rattle.std.specs.Prelude.{◌≡◌, ◌⊎◌, ℕ, ⊤, ◌≤◌, List, Some, Result, Ok, Err, IsErrAnd}
use Rattle.tnc_forms.specs.declared.fault.Fault.{Fault}
use Rattle.tnc_forms.specs.declared.fault.Fault.TheVariants.{Input as OfInput, Memory as OfMemory, Read as OfRead}
use Rattle.tnc_forms.specs.declared.fault.Fault.TheVariants.{Write as OfWrite}
use Rattle.tnc_loop.specs.declared.fault.LoopFault.{LoopFault}
use Rattle.tnc_loop.specs.declared.fault.LoopFault.TheVariants.{Stray as LoopStray, Memory as LoopMemory}
use Rattle.tnc_loop.specs.declared.fault.LoopFault.TheVariants.{Write as LoopWrite}
use Rattle.channel_bench.specs.declared.report.BenchFault.{BenchFault}
use Rattle.channel_bench.specs.declared.report.BenchFault.TheVariants.{Stray as BenchStray, NotQuiet as BenchNotQuiet}
use Rattle.channel_bench.specs.declared.report.BenchFault.TheVariants.{Spent as BenchSpent, Memory as BenchMemory}
use Rattle.channel_bench.specs.Words.{AreInRange}
use Rattle.tnc_bench.specs.declared.fault.CommandFault.{CommandFault}
use Rattle.tnc_bench.specs.declared.fault.CommandFault.TheVariants.{Run as OfRun, Write as OfBenchWrite}
use Rattle.tnc_bench.specs.Reported.{words_of}
use Rattle.afsk_modulator.specs.Modulation.{IsLevel}
use Rattle.tnc_words.specs.declared.command.Command.{Command}
use Rattle.tnc_words.specs.declared.command.Command.TheVariants.{Decode, Encode, Show, Loop, Bench, Serve, Help}
use Rattle.tnc_words.specs.declared.command.Command.TheVariants.{Record, Call, Version}
use Rattle.tnc_main.specs.declared.status.Status.{Status}
use Rattle.tnc_main.specs.declared.status.Status.TheVariants.{Done, BadInput, Memory as NoMemory, ReadFault, WriteFault}
use Rattle.tnc_main.specs.declared.status.Status.TheVariants.{Stray as HeardStray, NotQuiet as FoundNoQuiet}
use Rattle.tnc_main.specs.declared.status.Status.TheVariants.{Spent as WasSpent}
use Rattle.tnc_main.specs.declared.stop.Stop.{Stop}
use Rattle.tnc_main.specs.declared.stop.Stop.TheVariants.{Input, Stray, NotQuiet, Spent, Memory, Read, Write}
use Rattle.tnc_main.specs.Commands.{FindsNoQuiet, IsSpent, Strays, fault_of}

-- what is named of the octets, or of what loop or bench sent to itself, is there
abbrev pub IsStopOf : Command → List ℕ → Stop → Type 0
IsStopOf command octets (Input fault) = fault_of command octets ≡ Some fault
IsStopOf command octets (Stray frame) = Strays command frame
IsStopOf command octets (NotQuiet index) = FindsNoQuiet command index
IsStopOf command octets (Spent ticks) = IsSpent command ticks
IsStopOf command octets Memory = ⊤
IsStopOf command octets Read = ⊤
IsStopOf command octets Write = ⊤

-- what is named of what a command sent to itself is there
abbrev pub IsStopOfRun : Command → Stop → Type 0
IsStopOfRun command (Input fault) = ⊤
IsStopOfRun command (Stray frame) = Strays command frame
IsStopOfRun command (NotQuiet index) = FindsNoQuiet command index
IsStopOfRun command (Spent ticks) = IsSpent command ticks
IsStopOfRun command Memory = ⊤
IsStopOfRun command Read = ⊤
IsStopOfRun command Write = ⊤

-- it is told in a line
abbrev pub IsTold : Stop → Type 0
IsTold (Input fault) = ⊤
IsTold (Stray frame) = ⊤
IsTold (NotQuiet index) = ⊤
IsTold (Spent ticks) = ⊤
IsTold Memory = ⊥
IsTold Read = ⊥
IsTold Write = ⊥

-- the status of an end
abbrev pub status_of : Result (Unit {0}) Stop → Status
status_of (Ok nothing) = Done
status_of (Err (Input fault)) = BadInput
status_of (Err (Stray octets)) = HeardStray
status_of (Err (NotQuiet index)) = FoundNoQuiet
status_of (Err (Spent ticks)) = WasSpent
status_of (Err Memory) = NoMemory
status_of (Err Read) = ReadFault
status_of (Err Write) = WriteFault

-- an end has its own status, or if its line could not be made or written that of want of memory or of a write fault
abbrev pub EndsAs : Result (Unit {0}) Stop → Status → Type 0
EndsAs end status = (status ≡ status_of end) ⊎ (IsErrAnd end IsTold × ((status ≡ NoMemory) ⊎ (status ≡ WriteFault)))

-- how the ends of commands are told to the program
abbrev pub stop_of : Fault → Stop
stop_of (OfInput fault) = Input fault
stop_of OfMemory = Memory
stop_of OfRead = Read
stop_of OfWrite = Write

abbrev pub end_of : Result (Unit {0}) Fault → Result (Unit {0}) Stop
end_of (Ok nothing) = Ok nothing
end_of (Err fault) = Err (stop_of fault)

abbrev pub stop_of_loop : LoopFault → Stop
stop_of_loop (LoopStray octets) = Stray octets
stop_of_loop LoopMemory = Memory
stop_of_loop LoopWrite = Write

abbrev pub end_of_loop : Result (Unit {0}) LoopFault → Result (Unit {0}) Stop
end_of_loop (Ok nothing) = Ok nothing
end_of_loop (Err fault) = Err (stop_of_loop fault)

abbrev pub stop_of_run : BenchFault → Stop
stop_of_run (BenchStray octets) = Stray octets
stop_of_run (BenchNotQuiet index) = NotQuiet index
stop_of_run (BenchSpent ticks) = Spent ticks
stop_of_run BenchMemory = Memory

abbrev pub stop_of_bench : CommandFault → Stop
stop_of_bench (OfRun fault) = stop_of_run fault
stop_of_bench OfBenchWrite = Write

abbrev pub end_of_bench : Result (Unit {0}) CommandFault → Result (Unit {0}) Stop
end_of_bench (Ok nothing) = Ok nothing
end_of_bench (Err fault) = Err (stop_of_bench fault)

-- a command that makes one text of its input; the flags of encode can be sent, at its level, and bench is within its
-- ranges
abbrev pub CanRun : Command → Type 0
CanRun (Decode words) = ⊤
CanRun (Encode words) = (2 ≤ words.opening) × (1 ≤ words.closing) × IsLevel words.level
CanRun (Show words) = ⊤
CanRun (Loop words) = ⊤
CanRun (Bench options) = AreInRange (words_of options)
CanRun (Serve options) = ⊥
CanRun (Record options) = ⊥
CanRun (Call options) = ⊥
CanRun (Help topic) = ⊤
CanRun Version = ⊤
