-- The key of a station's transmitter: what is done for it in a turn and in a tick.
use Rattle.std.specs.Prelude.{◌≡◌, ℕ, ℤ, ◌+◌, ◌*◌, Bool, false, if◌then◌else◌, not, List, length, map, Option, Some}
use Rattle.std.specs.Prelude.{None}
use Rattle.channel_access.specs.Sound.{has_sound}
use Rattle.keying.specs.declared.line.End.{End}
use Rattle.keying.specs.declared.report.Report.{Report}
use Rattle.keying.specs.Calls.{Call}
use Rattle.keying.specs.Calls.Call.{Turn, Tick, AfterWrite}
use Rattle.keying.specs.Key.{is_free}
use Rattle.key_port.specs.KeyCalls.{MakesCall}
use Rattle.key_port.specs.KeyEvents.{KeyEvent, marks_of}
use Rattle.host_ports.specs.declared.report_line.ReportLine.{ReportLine}
use Rattle.host_ports.specs.declared.report_line.ReportLine.TheVariants.{KeyLine}
use Rattle.tnc_ports.specs.declared.serve_words.KeyWords.{KeyWords}
use Rattle.host_ports.specs.Hosts.{Hosts}
use Rattle.tnc_ports.specs.SampledFrames.{with_lines}

-- whether no transmission may begin for the key: to half duplex that is a carrier
abbrev pub is_held : Option KeyWords → List KeyEvent → Bool
is_held None keyed = false
is_held (Some key) keyed = not (is_free key.words (marks_of key.words keyed))

-- a line of the report that tells of the key
abbrev pub key_line : Report → ReportLine
key_line report = KeyLine report

-- A call of the key's machine is made, all that it asks for is done, and what is reported of it is in the report.
pub record CallsKey (key : KeyWords) (octets : ℕ) (call : Call) (keyed new : List KeyEvent) (before after : Hosts)
    : Type 0 where
  pub reported : List Report
  pub makes : MakesCall key.words octets call keyed new reported
  pub hosts : after ≡ with_lines (map key_line reported) before

-- ---- a turn

-- The machine is told what came on the line, and what it asks for is done. Nothing of it wants memory.
pub record TurnsKey (key : KeyWords) (octets : ℕ) (keyed new : List KeyEvent) (before after : Hosts) : Type 0 where
  pub now : ℕ
  pub came : List ℕ
  pub end : Option End
  pub call : CallsKey key octets (Turn now came end) keyed new before after

-- without a key nothing is done
abbrev pub TurnsKeyIf : Option KeyWords → ℕ → List KeyEvent → List KeyEvent → Hosts → Hosts → Type 0
TurnsKeyIf None octets keyed new before after = (new ≡ keyed) × (after ≡ before)
TurnsKeyIf (Some key) octets keyed new before after = TurnsKey key octets keyed new before after

-- ---- what the key is told of writes

-- how much the run had to write when the key was last told that no write has failed: so many octets of the output, and
-- so many lines of the report
pub record Whole : Type 0 where
  pub octets : ℕ
  pub lines : ℕ

abbrev pub nothing_written : Whole
nothing_written = record { octets = 0; lines = 0 }

-- the key is told whether a write has failed, when the run has had so much to write
abbrev pub told_whole : Bool → ℕ → ℕ → Whole → Whole
told_whole fault octets lines whole = if fault then whole else record { octets = octets; lines = lines }

-- ---- a tick

-- The machine is told whether the samples have sound before what goes out for them is written, and after that whether a
-- write of the output or of the report has failed by now. If none has, the output has it all by then.
pub record TicksKey (key : KeyWords) (octets : ℕ) (samples out : List ℤ) (keyed new : List KeyEvent)
    (whole told : Whole) (before after : Hosts) : Type 0 where
  pub between : List KeyEvent
  pub reached : Hosts
  pub tick : CallsKey key octets (Tick (has_sound samples)) keyed between before reached
  pub fault : Bool
  pub had : ℕ
  pub all : fault ≡ false → had ≡ octets + 2 * length out
  pub write : CallsKey key had (AfterWrite fault) between new reached after
  pub tells : told ≡ told_whole fault (octets + 2 * length out) (length reached.report) whole

abbrev pub TicksKeyIf : Option KeyWords → ℕ → List ℤ → List ℤ → List KeyEvent → List KeyEvent → Whole → Whole → Hosts
    → Hosts → Type 0
TicksKeyIf None octets samples out keyed new whole told before after =
    (new ≡ keyed) × (told ≡ whole) × (after ≡ before)
TicksKeyIf (Some key) octets samples out keyed new whole told before after =
    TicksKey key octets samples out keyed new whole told before after
