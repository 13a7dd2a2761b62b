-- What a live station adds to its two streams: all that it has to say, until a write fails. No public clause cites
-- this.
use Rattle.std.specs.Prelude.{◌≡◌, ℕ, ℤ, ◌⊎◌, Bool, true, false, List, ◌++◌, Some}
use Rattle.tnc_base.specs.Faults.{HasRisen}
use Rattle.tnc_base.specs.Streams.{WrotePart, SinkTold}
use Rattle.host_ports.specs.Hosts.{Hosts}
use Rattle.tnc_ports.specs.ReportText.{output_octets, report_text}
use Rattle.tnc_ports.specs.Sampled.{Live}
use Rattle.tnc_ports.specs.SampledRun.{GrowsBy}
use Rattle.host_ports.specs.declared.report_line.ReportLine.{ReportLine}

-- all of the octets are written
pub record PutsAll (octets : List ℕ) (before after : SinkTold) : Type 0 where
  pub written : GrowsBy octets before.written after.written
  pub faultless : after.faults ≡ before.faults

-- a first part of them is
pub record PutsPart (octets : List ℕ) (before after : SinkTold) : Type 0 where
  pub written : (was : List ℕ) → before.written ≡ Some was → WrotePart was octets after.written

-- a write of octets, if `failed` says before and after it that a write failed
abbrev pub Puts : Bool → Bool → List ℕ → SinkTold → SinkTold → Type 0
Puts true failed octets before after = (failed ≡ true) × (after ≡ before)
Puts false false octets before after = PutsAll octets before after
Puts false true octets before after = PutsPart octets before after × HasRisen before.faults after.faults

-- writes to both streams
abbrev pub PutsBoth : Bool → Bool → List ℕ → List ℕ → SinkTold → SinkTold → SinkTold → SinkTold → Type 0
PutsBoth true failed out text output output' report report' =
    (failed ≡ true) × (output' ≡ output) × (report' ≡ report)
PutsBoth false false out text output output' report report' =
    PutsAll out output output' × PutsAll text report report'
PutsBoth false true out text output output' report report' =
    PutsPart out output output' × PutsPart text report report'
    × (HasRisen output.faults output'.faults ⊎ HasRisen report.faults report'.faults)

-- what came to the report is put there
pub record ReportsMore (failed failed' : Bool) (hosts next : Hosts) (report report' : SinkTold) : Type 0 where
  pub lines : List ReportLine
  pub more : next.report ≡ hosts.report ++ lines
  pub puts : Puts failed failed' (report_text lines) report report'

-- and what was sent to the output
pub record WritesMore (failed failed' : Bool) (live next : Live)
    (output output' report report' : SinkTold) : Type 0 where
  pub lines : List ReportLine
  pub more : next.hosts.report ≡ live.hosts.report ++ lines
  pub samples : List ℤ
  pub sent : next.sent ≡ live.sent ++ samples
  pub puts : PutsBoth failed failed' (output_octets samples) (report_text lines) output output' report report'
