-- A run of a live station: turns until every reader has met the end of the ring, or until memory is wanted; and what
-- the outside then tells of it.
use Rattle.std.specs.Prelude.{◌≡◌, ◌≢◌, ℕ, zero, suc, ◌+◌, ◌*◌, ◌<◌, ◌≤◌, ◌⊎◌, Bool, true, false, List, [], ◌∷◌, ◌++◌}
use Rattle.std.specs.Prelude.{All, length, map, take, Option, Some, None}
use Rattle.std.specs.List.{flat_map}
use Rattle.frame_merge.specs.declared.candidate.Candidate.{Candidate}
use Rattle.sample_ring.specs.declared.got.Got.{Got}
use Rattle.slicer_bank.specs.HeardOnRing.{lane_of}
use Rattle.live_receiver.specs.Listening.{AreDueBy, readers_wanted}
use Rattle.keying.specs.Keyed.{failed}
use Rattle.key_port.specs.KeyCalls.{IsReleased}
use Rattle.key_port.specs.KeyEvents.{KeyEvent, marks_of, lines_of}
use Rattle.key_port.specs.KeyFaults.{has_failed}
use Rattle.key_port.specs.KeyLines.{KeyLine, LineTold}
use Rattle.key_port.specs.KeyTasks.{CountsIf}
use Rattle.sound_rate.specs.Rates.{written_at}
use Rattle.tnc_base.specs.Faults.{HasRisen}
use Rattle.tnc_base.specs.Streams.{SinkTold, WrotePart}
use Rattle.tnc_ports.specs.declared.serve_words.KeyWords.{KeyWords}
use Rattle.tnc_ports.specs.declared.serve_words.ServeWords.{ServeWords}
use Rattle.tnc_ports.specs.declared.looping.LoopEnd.{LoopEnd}
use Rattle.tnc_ports.specs.declared.looping.LoopEnd.TheVariants.{Done, Memory, WriteFault}
use Rattle.host_ports.specs.AskedPorts.{poll_of, send_of}
use Rattle.host_ports.specs.CutPart.{IsCutPart}
use Rattle.host_ports.specs.Hosts.{Hosts, is_among}
use Rattle.host_ports.specs.HostTurns.{Asked}
use Rattle.tnc_ports.specs.ReportedGaps.{AreAllGaps, AreFirstGaps}
use Rattle.tnc_ports.specs.ReportText.{output_octets, report_text}
use Rattle.tnc_ports.specs.Sampled.{Live, new_live, with_hosts, HaveEnded, LanesReadOn, AreHeard, HearsAll, MakesTicks}
use Rattle.tnc_ports.specs.Sampled.{MakesAll, IsTurn, IsKeyTurn, answers_of_all, octets_sent, tick_samples}
use Rattle.tnc_ports.specs.ServedHosts.{octets_to, ids_shut, IsShutHavingCome, AreSentInTurns, AreShutInTurns}
use Rattle.host_ports.specs.Sockets.{Poll, PortsTold, Send, MayCome}

-- ---- a whole run

-- so many turns, each from what the one before it left, in which some reader does not meet the end of the ring
abbrev pub AreTurns : ServeWords → ℕ → Live → Live → Type 0
AreTurns words zero before after = after ≡ before
AreTurns words (suc count) before after =
    (between : Live) × IsTurn words false before between × AreTurns words count between after

-- A run ends with the first turn in which every reader meets the end of the ring.
pub record IsRun (words : ServeWords) (live : Live) : Type 0 where
  pub count : ℕ
  pub last : Live
  pub turns : AreTurns words count (new_live words) last
  pub over : IsTurn words true last live
  pub ended : HaveEnded live.lanes

-- ---- a run that is cut short

-- a turn in which readers read on, and nothing more came to pass
pub record IsCutInReading (words : ServeWords) (before after : Live) : Type 0 where
  pub lanes : List (List Got)
  pub more : (lane : ℕ) → lane < readers_wanted words.listening
      → (reads : List Got) × (lane_of lanes lane ≡ lane_of before.lanes lane ++ reads)
  pub is : after ≡ record before { lanes = lanes }

-- a turn in which the first of the frames that are due are heard
pub record IsCutInHearing (words : ServeWords) (before after : Live) : Type 0 where
  pub ended : Bool
  pub read : Live
  pub reads : LanesReadOn words ended before read
  pub items : List Candidate
  pub others : List Candidate
  pub due : AreDueBy words.listening ended before.lanes read.lanes (items ++ others)
  pub hosts : Hosts
  pub hears : AreHeard words.monitor items read.hosts hosts
  pub is : after ≡ with_hosts hosts read

-- a turn in which all of them are heard, the key has its turn, and the first of the ticks are made
pub record IsCutInTicking (words : ServeWords) (before after : Live) : Type 0 where
  pub ended : Bool
  pub heard : Live
  pub hears : HearsAll words ended before heard
  pub keyed : Live
  pub keys : IsKeyTurn words heard keyed
  pub count : ℕ
  pub makes : MakesTicks words count keyed after

-- a turn that is cut short: when it reads, hears, ticks, or serves its hosts
abbrev pub IsCutTurn : ServeWords → Live → Live → Type 0
IsCutTurn words before after =
    IsCutInReading words before after ⊎ IsCutInHearing words before after ⊎ IsCutInTicking words before after
    ⊎ ((ended : Bool) × MakesAll words ended before after)

-- Whole turns, and then a turn that is cut short.
pub record IsCutRun (words : ServeWords) (live : Live) : Type 0 where
  pub count : ℕ
  pub last : Live
  pub turns : AreTurns words count (new_live words) last
  pub cut : IsCutTurn words last live

-- ---- what the outside tells

-- what the ports, the key's line, the output and the report tell of the calls so far
pub record Outside : Type 0 where
  pub ports : PortsTold
  pub line : LineTold
  pub output : SinkTold
  pub report : SinkTold

abbrev pub outside_by : {P K O E : Type 0} → (P → PortsTold) → (K → LineTold) → (O → SinkTold) → (E → SinkTold) → P → K
    → O → E → Outside
outside_by ports_told line_told output_told report_told ports key output report =
    record {
      ports = ports_told ports;
      line = line_told key;
      output = output_told output;
      report = report_told report;
    }

-- what is told grows by these
abbrev pub GrowsBy : {A : Type 0} → List A → Option (List A) → Option (List A) → Type 0
GrowsBy {A} more before after = (was : List A) → before ≡ Some was → after ≡ Some (was ++ more)

-- the sends of turns, the first of which makes the poll of a number, counted from 1
abbrev pub sends_from : ℕ → List Asked → List Send
sends_from poll [] = []
sends_from poll (asked ∷ turns) = map (send_of poll) asked.offers ++ sends_from (poll + 1) turns

-- The ports tell the polls, the sends and the octets that each connection took, turn by turn. A connection that a turn
-- shut is shut, and one that no turn shut is as it was. What came are whole pieces, none of a connection that was
-- paused. A send that failed is a fault of theirs.
pub record PortsTell (turns : List Asked) (before after : Outside) : Type 0 where
  pub polls : GrowsBy (map poll_of turns) before.ports.polls after.ports.polls
  pub sends : (was : List Poll) → before.ports.polls ≡ Some was
      → GrowsBy (sends_from (length was + 1) turns) before.ports.sends after.ports.sends
  pub sent_to : (id : ℕ) → GrowsBy (octets_to id turns) (before.ports.sent id) (after.ports.sent id)
  pub shut : (id : ℕ) (was : List Poll) (told : Bool) → before.ports.polls ≡ Some was → IsShutHavingCome id was turns
      → before.ports.is_shut id ≡ Some told → after.ports.is_shut id ≡ Some true
  pub not_shut : (id : ℕ) → is_among id (ids_shut turns) ≡ false → after.ports.is_shut id ≡ before.ports.is_shut id
  pub may_come : All (λ asked. All (MayCome asked.paused) asked.events) turns
  pub failed : flat_map (λ asked. asked.failed) turns ≢ [] → HasRisen before.ports.faults after.ports.faults

-- the ports did not listen, and their count of faults did not fall
pub record PortsStay (before after : Outside) : Type 0 where
  pub listens : after.ports.listens ≡ before.ports.listens
  pub faults : before.ports.faults ≤ after.ports.faults

-- All that there was to write when the key was last told that no write has failed is written. So a write that fails is
-- told to the key after the samples of the tick in which it fails, or of the next one.
pub record WroteWhole (live : Live) (before after : Outside) : Type 0 where
  pub output : (was now : List ℕ) → before.output.written ≡ Some was → after.output.written ≡ Some now
      → length was + live.whole.octets ≤ length now
  pub report : (was now : List ℕ) → before.report.written ≡ Some was → after.report.written ≡ Some now
      → length was + length (report_text (take live.whole.lines live.hosts.report)) ≤ length now

-- At every end of the run the key was released. The connections on its line are exactly those of the events, and a
-- fault of the line is counted exactly if one of them failed.
pub record KeyIsReleased (key : KeyWords) (live : Live) (before after : Outside) : Type 0 where
  pub keyed : List KeyEvent
  pub releases : IsReleased key.words (octets_sent live) live.keyed keyed
  pub lines : (was : List KeyLine) (out : List ℕ) → before.line.lines ≡ Some was → before.output.written ≡ Some out
      → after.line.lines ≡ Some (lines_of key.port (length out) was keyed)
  pub faults : CountsIf (has_failed keyed) before.line.faults after.line.faults
  pub whole : WroteWhole live before after

-- without key words nothing is done on the line
abbrev pub KeyTold : Option KeyWords → Live → Outside → Outside → Type 0
KeyTold None live before after = after.line ≡ before.line
KeyTold (Some key) live before after = KeyIsReleased key live before after

-- whether the key was told that a write has failed
abbrev pub key_failed : Option KeyWords → Live → Bool
key_failed None live = false
key_failed (Some key) live = failed (marks_of key.words live.keyed)

-- Each tick has its samples, and what was sent is what goes out for them, at the output's rate.
pub record AreSamplesSent (words : ServeWords) (live : Live) : Type 0 where
  pub size : length live.samples ≡ tick_samples * live.ticks
  pub at_rate : live.sent ≡ written_at words.rate live.samples

-- The output is what was sent for the ticks, the report is its lines, and no write failed.
pub record AllIsWritten (live : Live) (before after : Outside) : Type 0 where
  pub output : GrowsBy (output_octets live.sent) before.output.written after.output.written
  pub report : GrowsBy (report_text live.hosts.report) before.report.written after.report.written
  pub no_output_fault : after.output.faults ≡ before.output.faults
  pub no_report_fault : after.report.faults ≡ before.report.faults

-- A write failed, and the output and the report are first parts of these.
pub record PartIsWritten (live : Live) (before after : Outside) : Type 0 where
  pub output : (was : List ℕ) → before.output.written ≡ Some was → WrotePart was
      (output_octets live.sent) after.output.written
  pub report : (was : List ℕ) → before.report.written ≡ Some was → WrotePart was
      (report_text live.hosts.report) after.report.written
  pub failed : HasRisen before.output.faults after.output.faults ⊎ HasRisen before.report.faults after.report.faults

-- ---- the loop

-- A whole run, whose readers were answered this: those of the lanes, and then that of the sound. The pieces for each connection were appended in order, and what it was
-- sent is a first part of them. The sockets are told of each connection that was shut, and the report names exactly
-- these.
pub record IsWhole (words : ServeWords) (answers : List (List Got)) (live : Live) (before after : Outside)
    : Type 0 where
  pub run : IsRun words live
  pub answered : answers_of_all live ≡ answers
  pub told : PortsTell live.asked before after
  pub stay : PortsStay before after
  pub sends : AreSentInTurns live.asked live.hosts
  pub shuts : AreShutInTurns live.asked live.hosts
  pub all_shut : live.hosts.to_shut ≡ []
  pub gaps : AreAllGaps words live
  pub samples : AreSamplesSent words live

-- A turn that has made its ticks is cut short when it serves its hosts: the ports were asked so.
pub record IsCutInServing (words : ServeWords) (before made : Live) (asked : Asked) (reached : Hosts) : Type 0 where
  pub ended : Bool
  pub makes : MakesAll words ended before made
  pub part : IsCutPart asked made.hosts reached

-- The ports were asked so turn by turn, and these are the hosts that the sends leave: in the whole turns alone, or in
-- the turn too that is cut short.
abbrev pub AreAskedInTurns : ServeWords → Live → Live → List Asked → Hosts → Type 0
AreAskedInTurns words last live turns reached =
    ((turns ≡ live.asked) × (reached ≡ live.hosts))
    ⊎ ((asked : Asked) × IsCutInServing words last live asked reached × (turns ≡ live.asked ++ asked ∷ []))

-- A run that is cut short. What each connection was sent is a first part of what was appended for it here too. The reader
-- of the sound was perhaps answered more, of a tick that was not made.
pub record IsCut (words : ServeWords) (answers : List (List Got)) (live : Live) (before after : Outside) : Type 0 where
  pub run : IsCutRun words live
  pub more : List Got
  pub answered : answers_of_all (record live { sound = live.sound ++ more }) ≡ answers
  pub turns : List Asked
  pub reached : Hosts
  pub asked : AreAskedInTurns words run.last live turns reached
  pub told : PortsTell turns before after
  pub stay : PortsStay before after
  pub sends : AreSentInTurns turns reached
  pub shuts : AreShutInTurns turns reached
  pub gaps : AreFirstGaps words live
  pub samples : AreSamplesSent words live

-- All is written, and the key was never told otherwise.
pub record AllIsWrittenAsTold (key : Option KeyWords) (live : Live) (before after : Outside) : Type 0 where
  pub written : AllIsWritten live before after
  pub untold : key_failed key live ≡ false

-- The loop by how it ends: all of a whole run is written; or after a write that failed the run went on to its end; or
-- memory was wanted, and the run is cut short. Whichever it is, the key is released.
abbrev pub IsLooped : ServeWords → LoopEnd → List (List Got) → Outside → Outside → Type 0
IsLooped words Done answers before after =
    (live : Live) × IsWhole words answers live before after × AllIsWrittenAsTold words.key live before after
    × KeyTold words.key live before after
IsLooped words WriteFault answers before after =
    (live : Live) × IsWhole words answers live before after × PartIsWritten live before after
    × KeyTold words.key live before after
IsLooped words Memory answers before after =
    (live : Live) × IsCut words answers live before after
    × (AllIsWrittenAsTold words.key live before after ⊎ PartIsWritten live before after)
    × KeyTold words.key live before after
