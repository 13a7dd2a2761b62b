-- What a key did, the newest event first: the calls of its machine, and what was done on its line for them. Each call
-- asks for tasks, and nothing else is done on the line, in no other order.
use Rattle.std.specs.Prelude.{◌≡◌, ℕ, ◌+◌, Bool, true, false, List, [], ◌∷◌, ◌++◌, drop, Option, Some, None}
use Rattle.keying.specs.declared.command.Command.{Command}
use Rattle.keying.specs.declared.command.Command.TheVariants.{Release as Unkey}
use Rattle.keying.specs.declared.ending.Ending.{Ending}
use Rattle.keying.specs.declared.ending.Ending.TheVariants.{ConnectNow, OpenNow, ReleaseNow, Wait, Over}
use Rattle.keying.specs.declared.line.Try.{Try}
use Rattle.keying.specs.declared.line.Try.TheVariants.{Refused, NotYet, Written}
use Rattle.keying.specs.declared.machine.Words.{Words}
use Rattle.keying.specs.declared.report.OffWhy.TheVariants.{Sound}
use Rattle.keying.specs.declared.report.Report.{Report}
use Rattle.keying.specs.declared.report.Report.TheVariants.{Ready, Lost, Off}
use Rattle.keying.specs.declared.report.Why.{Why}
use Rattle.keying.specs.declared.turning.Next.{Next}
use Rattle.keying.specs.declared.turning.Next.TheVariants.{Rest, ToConnect, ToOpen, ToRelease}
use Rattle.keying.specs.declared.turning.Turn.{Turn as Told}
use Rattle.keying.specs.Calls.{Call, history, read}
use Rattle.keying.specs.Calls.Call.{Turn, AfterTry, Tick, AfterWrite, CommandFailed, Release}
use Rattle.keying.specs.Key.{key_of, is_down}
use Rattle.keying.specs.Line.{phase}
use Rattle.keying.specs.Marks.{Mark}
use Rattle.keying.specs.Told.{turn_told, try_told, tick_told, written_told, fault_told, ending_told}
use Rattle.key_port.specs.KeyLines.{KeyLine, with_last, after_connect, after_write, after_read, after_drop}

pub data KeyEvent : Type 0 where
  -- a call of the machine; a turn and a release were told what was read on the line right before
  Called : (call : Call) → KeyEvent
  -- a connection was begun
  Began : KeyEvent
  -- it could not be
  NotBegun : KeyEvent
  -- a command was written whole, when the run had written so many octets of its output
  Wrote : (command : Command) → (had : ℕ) → KeyEvent
  -- a command was not written whole
  NotWritten : KeyEvent
  -- the connection was given up
  HungUp : KeyEvent

-- the calls alone
abbrev pub calls_of : List KeyEvent → List Call
calls_of [] = []
calls_of (Called call ∷ events) = call ∷ calls_of events
calls_of (_ ∷ events) = calls_of events

-- what has happened to the machine
abbrev pub marks_of : Words → List KeyEvent → List Mark
marks_of words events = history words (calls_of events)

-- ---- the line

-- what was read for a call
abbrev pub lines_read : Call → List KeyLine → List KeyLine
lines_read (Turn now octets end) lines = with_last (after_read now octets end) lines
lines_read (Release now octets end) lines = with_last (after_read now octets end) lines
lines_read (AfterTry how) lines = lines
lines_read (Tick sounds) lines = lines
lines_read (AfterWrite fault) lines = lines
lines_read CommandFailed lines = lines

-- the connections to the port, the last one last, if these were there at first, and the output had so many octets
abbrev pub lines_of : ℕ → ℕ → List KeyLine → List KeyEvent → List KeyLine
lines_of port start was [] = was
lines_of port start was (Called call ∷ events) = lines_read call (lines_of port start was events)
lines_of port start was (Began ∷ events) = after_connect port (lines_of port start was events)
lines_of port start was (NotBegun ∷ events) = with_last after_drop (lines_of port start was events)
lines_of port start was (Wrote command had ∷ events) =
    with_last (after_write command (start + had)) (lines_of port start was events)
lines_of port start was (NotWritten ∷ events) = lines_of port start was events
lines_of port start was (HungUp ∷ events) = with_last after_drop (lines_of port start was events)

-- ---- what is to be done

pub data Task : Type 0 where
  -- a connection is to be begun
  Connect : Task
  -- its first release is to be written, if it can be by now
  Open : Task
  -- a command is to be written
  Write : (command : Command) → Task
  -- the machine is to be told how that went
  Tell : (call : Call) → Task
  -- the connection is to be given up
  GiveUp : Task

-- to give the connection up, if it is lost
abbrev pub give_up_if : Bool → List Task
give_up_if true = GiveUp ∷ []
give_up_if false = []

abbrev pub tasks_of_next : Next → List Task
tasks_of_next Rest = []
tasks_of_next ToConnect = Connect ∷ []
tasks_of_next ToOpen = Open ∷ []
tasks_of_next ToRelease = Write Unkey ∷ []

abbrev pub tasks_of_ending : Ending → List Task
tasks_of_ending ConnectNow = Connect ∷ []
tasks_of_ending OpenNow = Open ∷ []
tasks_of_ending ReleaseNow = Write Unkey ∷ []
tasks_of_ending Wait = []
tasks_of_ending Over = []

abbrev pub tasks_of_try : Try → List Task
tasks_of_try Refused = GiveUp ∷ []
tasks_of_try NotYet = []
tasks_of_try Written = []

abbrev pub tasks_of_command : Option Command → List Task
tasks_of_command None = []
tasks_of_command (Some command) = Write command ∷ []

-- What a call asks for, in order. A turn tells the loss of a connection; a call at the end of the run tells none, so
-- the connection is given up whenever the machine has none by then.
abbrev pub asks : Words → Call → List Mark → List Task
asks words (Turn now octets end) past = let told = turn_told words now octets end past in
    give_up_if told.dropped ++ tasks_of_next told.next
asks words (AfterTry how) past = tasks_of_try how
asks words (Tick sounds) past = tasks_of_command (tick_told words sounds past).command
asks words (AfterWrite fault) past = tasks_of_command (written_told fault (key_of words past))
asks words CommandFailed past = GiveUp ∷ []
asks words (Release now octets end) past =
    give_up_if (is_down (phase (read words now octets end past)))
    ++ tasks_of_ending (ending_told words now octets end past)

abbrev pub after_written : List Task → List Task
after_written (Open ∷ tasks) = Tell (AfterTry Written) ∷ []
after_written _ = []

abbrev pub after_unwritten : List Task → List Task
after_unwritten (Open ∷ tasks) = Tell (AfterTry Refused) ∷ []
after_unwritten (Write command ∷ tasks) = Tell CommandFailed ∷ []
after_unwritten _ = []

-- what is still to be done after these events, in order
abbrev pub to_do : Words → List KeyEvent → List Task
to_do words [] = []
to_do words (Called call ∷ events) = asks words call (marks_of words events)
to_do words (Began ∷ events) = Open ∷ []
to_do words (NotBegun ∷ events) = Tell (AfterTry Refused) ∷ []
to_do words (Wrote command had ∷ events) = after_written (to_do words events)
to_do words (NotWritten ∷ events) = after_unwritten (to_do words events)
to_do words (HungUp ∷ events) = drop 1 (to_do words events)

-- the calls that are made when nothing is to be done
abbrev pub Begins : Call → Type 0
Begins (AfterTry how) = ⊥
Begins CommandFailed = ⊥
Begins _ = Unit {0}

-- The first task that is to be done is done so. A first release that cannot be written yet is told at once.
abbrev pub Does : KeyEvent → List Task → Type 0
Does (Called call) [] = Begins call
Does (Called call) (Open ∷ tasks) = call ≡ AfterTry NotYet
Does (Called call) (Tell told ∷ tasks) = call ≡ told
Does Began (Connect ∷ tasks) = Unit {0}
Does NotBegun (Connect ∷ tasks) = Unit {0}
Does (Wrote command had) (Open ∷ tasks) = command ≡ Unkey
Does (Wrote command had) (Write asked ∷ tasks) = command ≡ asked
Does NotWritten (Open ∷ tasks) = Unit {0}
Does NotWritten (Write asked ∷ tasks) = Unit {0}
Does HungUp (GiveUp ∷ tasks) = Unit {0}
Does _ _ = ⊥

-- Each event does what those before it ask for.
abbrev pub Obeys : Words → List KeyEvent → Type 0
Obeys words [] = Unit {0}
Obeys words (event ∷ events) = Does event (to_do words events) × Obeys words events

-- ---- what is reported

abbrev pub ready_report : Bool → List Report
ready_report true = Ready ∷ []
ready_report false = []

abbrev pub lost_report : Option Why → List Report
lost_report None = []
lost_report (Some why) = Lost why ∷ []

abbrev pub off_report : Next → List Report
off_report Rest = []
off_report ToConnect = []
off_report ToOpen = []
off_report ToRelease = Off Sound ∷ []

abbrev pub tick_report : Option Report → List Report
tick_report None = []
tick_report (Some report) = report ∷ []

abbrev pub turn_reports : Told → List Report
turn_reports told = ready_report told.ready ++ lost_report told.lost ++ off_report told.next

-- of a call; at the end of the run nothing is reported
abbrev pub call_reports : Words → Call → List Mark → List Report
call_reports words (Turn now octets end) past = turn_reports (turn_told words now octets end past)
call_reports words (AfterTry how) past = lost_report (try_told words how past)
call_reports words (Tick sounds) past = tick_report (tick_told words sounds past).report
call_reports words (AfterWrite fault) past = []
call_reports words CommandFailed past = lost_report (fault_told words past)
call_reports words (Release now octets end) past = []

-- of all of them, in order
abbrev pub reports_of : Words → List KeyEvent → List Report
reports_of words [] = []
reports_of words (Called call ∷ events) = reports_of words events ++ call_reports words call (marks_of words events)
reports_of words (_ ∷ events) = reports_of words events
