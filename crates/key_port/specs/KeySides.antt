-- What contracts see of a key on its line: its machine with the port, and what its calls come to.
use Rattle.std.specs.Prelude.{◌≡◌, ℕ, List, [], ◌++◌, Option, All}
use Rattle.keying.specs.declared.machine.Words.{Words}
use Rattle.keying.specs.declared.report.Report.{Report}
use Rattle.keying.specs.Calls.{Call}
use Rattle.key_port.specs.declared.key_side.KeyReports.{KeyReports}
use Rattle.key_port.specs.declared.key_side.KeySide.{KeySide}
use Rattle.key_port.specs.KeyCalls.{MakesCall, IsReleased, Releases, StandsAt}
use Rattle.key_port.specs.KeyEvents.{KeyEvent, ready_report, lost_report, tick_report}
use Rattle.key_port.specs.KeyLines.{LineTold}
use Rattle.key_port.specs.KeyTasks.{IsDoing, LineGoes, FaultsGo}

-- the port of its line
abbrev pub port_of : KeySide → ℕ
port_of side = side.port

-- what is reported, in order
abbrev pub reports_in : KeyReports → List Report
reports_in reports = ready_report reports.ready
    ++ (lost_report reports.lost ++ (tick_report reports.off ++ lost_report reports.failed))

-- it did this, the newest event first, and nothing is left to do
abbrev pub HasDone : Words → List KeyEvent → KeySide → Type 0
HasDone words keyed side = IsDoing words [] keyed side.machine

-- After these events come others, of which this holds. The line has them, and counts the failures among them.
pub record GoesOn (P : List KeyEvent → Type 0) (words : Words) (octets : ℕ) (written : Option (List ℕ))
    (keyed : List KeyEvent) (side : KeySide) (before after : LineTold) : Type 0 where
  pub new : List KeyEvent
  pub is : P new
  pub done : HasDone words new side
  pub line : LineGoes (port_of side) octets written keyed new before.lines after.lines
  pub faults : FaultsGo keyed new before.faults after.faults

-- a call of the machine, with all that it asks for; this is reported of it
abbrev pub DoesCall : Words → ℕ → Option (List ℕ) → Call → List KeyEvent → List Report → KeySide → LineTold → LineTold
    → Type 0
DoesCall words octets written call keyed reported side before after =
    GoesOn (λ new. MakesCall words octets call keyed new reported) words octets written keyed side before after

-- the end of the run
abbrev pub DoesRelease : Words → ℕ → Option (List ℕ) → List KeyEvent → KeySide → LineTold → LineTold → Type 0
DoesRelease words octets written keyed side before after =
    GoesOn (λ new. IsReleased words octets keyed new) words octets written keyed side before after

-- some calls at the end of the run, with all that they ask for
pub record Closes (words : Words) (octets : ℕ) (keyed new : List KeyEvent) : Type 0 where
  pub more : List KeyEvent
  pub releases : All Releases more
  pub order : All (StandsAt octets) more
  pub is : new ≡ more ++ keyed
