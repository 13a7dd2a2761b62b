-- What the code keeps of a live station between two turns, and what each part of a turn makes of it. No public clause
-- cites this.
use Rattle.std.specs.Prelude.{◌≡◌, ℕ, ◌+◌, ◌*◌, ◌≤◌, ◌⊎◌, Bool, true, false, List, [], ◌∷◌, ◌++◌, length, take}
use Rattle.std.specs.Prelude.{Option, Some, None, option_map}
use Rattle.frame_merge.specs.declared.candidate.Candidate.{Candidate}
use Rattle.keying.specs.declared.report.Report.{Report}
use Rattle.keying.specs.Calls.{Call}
use Rattle.key_port.specs.declared.key_side.KeySide.{KeySide}
use Rattle.key_port.specs.KeyCalls.{IsReleased}
use Rattle.key_port.specs.KeyEvents.{KeyEvent, lines_of}
use Rattle.key_port.specs.KeyFaults.{has_failed}
use Rattle.key_port.specs.KeySides.{port_of, HasDone, DoesCall, DoesRelease}
use Rattle.key_port.specs.KeyLines.{LineTold}
use Rattle.key_port.specs.KeyTasks.{CountsIf}
use Rattle.sample_ring.specs.declared.got.Got.{Got}
use Rattle.slicer_bank.specs.HeardOnRing.{least_position}
use Rattle.slicer_bank.specs.RingLanes.{answers_of}
use Rattle.live_receiver.specs.Listening.{AreDueBy}
use Rattle.live_receiver.specs.declared.receiver.LiveReceiver.{LiveReceiver}
use Rattle.live_receiver.specs.LiveReceivers.{answers_in, listening_of, Hears, LanesListen}
use Rattle.tnc_base.specs.Streams.{SinkTold}
use Rattle.tnc_ports.specs.declared.looping.LoopEnd.{LoopEnd}
use Rattle.tnc_ports.specs.declared.looping.LoopEnd.TheVariants.{Done, Memory, WriteFault}
use Rattle.tnc_ports.specs.declared.serve_words.KeyWords.{KeyWords}
use Rattle.tnc_ports.specs.declared.serve_words.ServeWords.{ServeWords}
use Rattle.tnc_ports.specs.declared.turning.Turning.{Turning}
use Rattle.host_ports.specs.AskedPorts.{AreUnasked, IsAsked}
use Rattle.host_ports.specs.Sockets.{PortsTold}
use Rattle.host_ports.specs.HeldHosts.{HeldHosts, StandsFor}
use Rattle.tnc_ports.specs.HeldMeter.{HasMeasured, Measures}
use Rattle.host_ports.specs.Hosts.{Hosts}
use Rattle.host_ports.specs.HostTurns.{Asked, IsHostPart}
use Rattle.tnc_ports.specs.Sampled.{Live, new_live, HaveEnded, LanesReadOn, AreHeard, AreTicked, MakesAll, IsTurn}
use Rattle.tnc_ports.specs.Sampled.{IsKeyTurn, octets_sent, tick_samples}
use Rattle.tnc_ports.specs.SampledFrames.{IsFrameHeard}
use Rattle.tnc_ports.specs.ReportText.{report_text}
use Rattle.tnc_ports.specs.SampledRun.{IsCutTurn, IsCutInServing, AreTurns, Outside, PortsTell, PortsStay, key_failed}
use Rattle.tnc_ports.specs.SampledRun.{IsWhole, IsCut, AllIsWrittenAsTold, PartIsWritten}
use Rattle.tnc_ports.specs.SampledWrites.{ReportsMore, WritesMore}

-- the hosts' side stands for the hosts, and all that it reported is put to the report
abbrev pub Keeps : HeldHosts → Hosts → Type 0
Keeps held hosts = StandsFor held hosts.report hosts

-- a key was asked for exactly if there is one, and it did what the station says
abbrev pub KeyStands : Option KeyWords → Option KeySide → List KeyEvent → Type 0
KeyStands None None keyed = Unit {0}
KeyStands (Some key) (Some side) keyed = HasDone key.words keyed side × (port_of side ≡ key.port)
KeyStands _ _ keyed = ⊥

-- where a run began: how many octets its output and its report had, if they told, and what the line told
pub record From : Type 0 where
  pub output : Option ℕ
  pub report : Option ℕ
  pub line : LineTold

-- An output that told so many octets at first. All samples so far are in it as long as no write has failed, and as long
-- as the key was not told of one that has. All is in it that there was to write when the key was last told that none has.
pub record IsOutputSince (start : ℕ) (key : Option KeyWords) (failed : Bool) (live : Live) (output : SinkTold)
    : Type 0 where
  pub out : List ℕ
  pub is : output.written ≡ Some out
  pub longer : start ≤ length out
  pub kept : failed ≡ false → length out ≡ start + octets_sent live
  pub all : (words : KeyWords) → key ≡ Some words → key_failed (Some words) live ≡ false
      → length out ≡ start + octets_sent live
  pub whole : start + live.whole.octets ≤ length out

-- and a report
pub record IsReportSince (start : ℕ) (failed : Bool) (live : Live) (report : SinkTold) : Type 0 where
  pub out : List ℕ
  pub is : report.written ≡ Some out
  pub kept : failed ≡ false → length out ≡ start + length (report_text live.hosts.report)
  pub whole : start + length (report_text (take live.whole.lines live.hosts.report)) ≤ length out

pub record IsWrittenSince (from : From) (key : Option KeyWords) (failed : Bool) (live : Live) (output report : SinkTold)
    : Type 0 where
  pub outputs : (start : ℕ) → from.output ≡ Some start → IsOutputSince start key failed live output
  pub reports : (start : ℕ) → from.report ≡ Some start → IsReportSince start failed live report
  pub lines : live.whole.lines ≤ length live.hosts.report

-- the line has all that the key did since a run began; without a key it is as it was then
abbrev pub LineStands : From → Option KeyWords → Live → LineTold → Type 0
LineStands from None live line = line ≡ from.line
LineStands from (Some key) live line =
    ((start : ℕ) → from.output ≡ Some start
    → line.lines ≡ option_map (λ lines. lines_of key.port start lines live.keyed) from.line.lines)
    × CountsIf (has_failed live.keyed) from.line.faults line.faults

-- the key of a station since the run began
pub record KeyedSince (from : From) (turning : Turning) (live : Live) (output report : SinkTold) (line : LineTold)
    : Type 0 where
  pub stands : KeyStands turning.words.key turning.key live.keyed
  pub untold : turning.failed ≡ false → key_failed turning.words.key live ≡ false
  pub written : IsWrittenSince from turning.words.key turning.failed live output report
  pub line_stands : LineStands from turning.words.key live line

pub record StandsForLive (turning : Turning) (len : ℕ) (receiver : LiveReceiver) (live : Live) : Type 0 where
  pub hosts : Keeps turning.hosts live.hosts
  pub ticks : turning.ticks ≡ live.ticks
  pub listening : listening_of receiver ≡ turning.words.listening
  pub lanes : answers_in len receiver ≡ live.lanes
  pub hears : Hears len receiver
  pub passed : tick_samples * live.ticks ≤ least_position live.lanes
  pub measures : Measures len turning.words.rate turning.meter live

-- ---- frames

pub record HearsFrame (octets : List ℕ) (before after : Turning) (hosts : Hosts) (report report' : SinkTold)
    : Type 0 where
  pub next : Hosts
  pub heard : IsFrameHeard before.words.monitor octets hosts next
  pub keeps : Keeps after.hosts next
  pub writes : ReportsMore before.failed after.failed hosts next report report'

pub record HearsFrames (items : List Candidate) (before after : Turning) (hosts : Hosts) (report report' : SinkTold)
    : Type 0 where
  pub next : Hosts
  pub heard : AreHeard before.words.monitor items hosts next
  pub keeps : Keeps after.hosts next
  pub writes : ReportsMore before.failed after.failed hosts next report report'

-- the first of them, whatever is kept
pub record HearsSome (items : List Candidate) (before after : Turning) (hosts : Hosts) (report report' : SinkTold)
    : Type 0 where
  pub first : List Candidate
  pub others : List Candidate
  pub parts : items ≡ first ++ others
  pub next : Hosts
  pub heard : AreHeard before.words.monitor first hosts next
  pub writes : ReportsMore before.failed after.failed hosts next report report'

-- ---- the key

-- a call of the key's machine, with all that it asks for
abbrev pub DoesForKey : KeyWords → ℕ → Option (List ℕ) → Call → List KeyEvent → List Report → Option KeySide → LineTold
    → LineTold → Type 0
DoesForKey key octets written call keyed reported None line line' = ⊥
DoesForKey key octets written call keyed reported (Some side) line line' =
    DoesCall key.words octets written call keyed reported side line line' × (port_of side ≡ key.port)

-- the end of the run
abbrev pub ReleasesKey : Option KeyWords → ℕ → Option (List ℕ) → List KeyEvent → Option KeySide → LineTold → LineTold
    → Type 0
ReleasesKey None octets written keyed None line line' = line' ≡ line
ReleasesKey (Some key) octets written keyed (Some side) line line' =
    DoesRelease key.words octets written keyed side line line' × (port_of side ≡ key.port)
ReleasesKey _ octets written keyed _ line line' = ⊥

-- the key was released, since a run began
pub record ReleasedSince (from : From) (key : KeyWords) (live : Live) (line : LineTold) : Type 0 where
  pub keyed : List KeyEvent
  pub releases : IsReleased key.words (octets_sent live) live.keyed keyed
  pub lines : (start : ℕ) → from.output ≡ Some start
      → line.lines ≡ option_map (λ lines. lines_of key.port start lines keyed) from.line.lines
  pub faults : CountsIf (has_failed keyed) from.line.faults line.faults

abbrev pub IsReleasedSince : From → Option KeyWords → Live → LineTold → Type 0
IsReleasedSince from None live line = line ≡ from.line
IsReleasedSince from (Some key) live line = ReleasedSince from key live line

-- what the key did in its turn
pub record TurnsTheKey (from : From) (before after : Turning) (live : Live) (output report report' : SinkTold)
    (line' : LineTold) : Type 0 where
  pub next : Live
  pub turn : IsKeyTurn before.words live next
  pub keeps : Keeps after.hosts next.hosts
  pub key : KeyedSince from after next output report' line'
  pub writes : ReportsMore before.failed after.failed live.hosts next.hosts report report'

-- ---- ticks

-- so many ticks, whatever is kept
pub record Ticks (from : From) (busy : Bool) (count len : ℕ) (before after : Turning) (live : Live)
    (output output' report report' : SinkTold) (line' : LineTold) : Type 0 where
  pub next : Live
  pub ticked : AreTicked before.words busy count live next
  pub key : KeyedSince from after next output' report' line'
  pub writes : WritesMore before.failed after.failed live next output output' report report'
  pub measured : HasMeasured len after.meter next

pub record TicksAll (from : From) (busy : Bool) (count len : ℕ) (before after : Turning) (live : Live)
    (output output' report report' : SinkTold) (line' : LineTold) : Type 0 where
  pub next : Live
  pub ticked : AreTicked before.words busy count live next
  pub key : KeyedSince from after next output' report' line'
  pub writes : WritesMore before.failed after.failed live next output output' report report'
  pub keeps : Keeps after.hosts next.hosts
  pub ticks : after.ticks ≡ next.ticks
  pub measures : Measures len before.words.rate after.meter next

-- ---- hosts

pub record ServesAll (before after : Turning) (hosts : Hosts) (report report' : SinkTold) (told told' : PortsTold)
    : Type 0 where
  pub asked : Asked
  pub next : Hosts
  pub part : IsHostPart asked hosts next
  pub tells : IsAsked asked told told'
  pub keeps : Keeps after.hosts next
  pub writes : ReportsMore before.failed after.failed hosts next report report'

-- ---- reading

pub record Reads (ended : Bool) (least : ℕ) (items : List Candidate) (before after : Turning) (len : ℕ)
    (receiver : LiveReceiver) (live : Live) (report report' : SinkTold) : Type 0 where
  pub read : Live
  pub reads : LanesReadOn before.words ended live read
  pub due : AreDueBy before.words.listening ended live.lanes read.lanes items
  pub lanes : answers_in len receiver ≡ read.lanes
  pub listening : listening_of receiver ≡ before.words.listening
  pub listens : LanesListen len receiver
  pub is_least : least ≡ least_position read.lanes
  pub forward : least_position live.lanes ≤ least
  pub hears : ended ≡ false → Hears len receiver
  pub ends : ended ≡ true → HaveEnded read.lanes
  pub keeps : Keeps after.hosts read.hosts
  pub writes : ReportsMore before.failed after.failed live.hosts read.hosts report report'

-- ---- a turn

-- All of a turn that is not for hosts. The samples of its ticks are handed to the output here, before the ports are
-- asked anything.
pub record Makes (from : From) (ended : Bool) (before after : Turning) (len : ℕ) (receiver : LiveReceiver) (live : Live)
    (output output' report report' : SinkTold) (line' : LineTold) : Type 0 where
  pub made : Live
  pub makes : MakesAll before.words ended live made
  pub lanes : answers_in len receiver ≡ made.lanes
  pub listening : listening_of receiver ≡ before.words.listening
  pub hears : ended ≡ false → Hears len receiver
  pub ends : ended ≡ true → HaveEnded made.lanes
  pub keeps : Keeps after.hosts made.hosts
  pub ticks : after.ticks ≡ made.ticks
  pub measures : Measures len before.words.rate after.meter made
  pub asked : made.asked ≡ live.asked
  pub key : KeyedSince from after made output' report' line'
  pub writes : WritesMore before.failed after.failed live made output output' report report'

pub record Turns (from : From) (ended : Bool) (before after : Turning) (len : ℕ) (receiver : LiveReceiver) (live : Live)
    (output output' report report' : SinkTold) (told told' : PortsTold) (line' : LineTold) : Type 0 where
  -- what is kept after the part that is not for hosts, and the report then: it has written all that it had to, and
  -- only then the part for hosts asks the ports
  pub between : Turning
  pub reported : SinkTold
  pub makes : Makes from ended before between len receiver live output output' report reported line'
  pub serves : ServesAll between after makes.made.hosts reported report' told told'
  pub next : Live
  pub turn : IsTurn before.words ended live next
  pub goes_on : ended ≡ false → StandsForLive after len receiver next
  pub over : ended ≡ true → HaveEnded next.lanes
  pub lanes : answers_in len receiver ≡ next.lanes
  pub sound : answers_of len after.meter.reader ≡ next.sound
  pub key : KeyedSince from after next output' report' line'
  pub writes : WritesMore before.failed after.failed live next output output' report report'
  pub asked : Asked
  pub asks : next.asked ≡ live.asked ++ asked ∷ []
  pub tells : IsAsked asked told told'

pub record IsCutOff (from : From) (before after : Turning) (len : ℕ) (receiver : LiveReceiver) (live : Live)
    (output output' report report' : SinkTold) (told told' : PortsTold) (line' : LineTold) : Type 0 where
  pub next : Live
  pub cut : IsCutTurn before.words live next
  pub lanes : answers_in len receiver ≡ next.lanes
  pub measured : HasMeasured len after.meter next
  pub key : KeyedSince from after next output' report' line'
  pub writes : WritesMore before.failed after.failed live next output output' report report'
  pub asks : next.asked ≡ live.asked
  pub tells : AreUnasked told told'
      ⊎ ((asked : Asked) × (reached : Hosts) × IsCutInServing before.words live next asked reached
      × IsAsked asked told told')

-- ---- all turns so far

-- where the outside stood when a run began
abbrev pub from_of : Outside → From
from_of start = record {
  output = option_map (λ out. length out) start.output.written;
  report = option_map (λ out. length out) start.report.written;
  line = start.line;
}

-- so many turns were made since the first
pub record Runs (words : ServeWords) (turning : Turning) (len : ℕ) (receiver : LiveReceiver) (start now : Outside)
    : Type 0 where
  pub count : ℕ
  pub live : Live
  pub turns : AreTurns words count (new_live words) live
  pub stands : StandsForLive turning len receiver live
  pub words_kept : turning.words ≡ words
  pub key : KeyedSince (from_of start) turning live now.output now.report now.line
  pub writes : WritesMore false turning.failed (new_live words) live start.output now.output start.report
      now.report
  pub told : PortsTell live.asked start now
  pub stay : PortsStay start now

-- ---- the end of all turns, before the key is released

-- the loop by how it ends, with a key that still stands for what it did
pub record IsRunOut (words : ServeWords) (live : Live) (turning : Turning) (start now : Outside) : Type 0 where
  pub words_kept : turning.words ≡ words
  pub key : KeyedSince (from_of start) turning live now.output now.report now.line

abbrev pub RunsOut : ServeWords → LoopEnd → List (List Got) → Turning → Outside → Outside → Type 0
RunsOut words Done answers turning start now =
    (live : Live) × IsWhole words answers live start now × AllIsWrittenAsTold words.key live start now
    × IsRunOut words live turning start now
RunsOut words WriteFault answers turning start now =
    (live : Live) × IsWhole words answers live start now × PartIsWritten live start now
    × IsRunOut words live turning start now
RunsOut words Memory answers turning start now =
    (live : Live) × IsCut words answers live start now
    × (AllIsWrittenAsTold words.key live start now ⊎ PartIsWritten live start now)
    × IsRunOut words live turning start now
