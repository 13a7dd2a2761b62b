-- What a report tells of a station's health after a tick, in order.
use Rattle.std.specs.Prelude.{ℕ, Bool, true, false, List, [], ◌∷◌, ◌++◌, map, Option, Some, None}
use Rattle.host_ports.specs.declared.health_note.Counts.{Counts}
use Rattle.host_ports.specs.declared.health_note.HealthNote.{HealthNote}
use Rattle.host_ports.specs.declared.health_note.HealthNote.TheVariants.{Dropped, DeadSound, Stats}
use Rattle.host_ports.specs.declared.health_note.HealthNotes.{HealthNotes}
use Rattle.host_ports.specs.declared.report_line.ReportLine.{ReportLine}
use Rattle.host_ports.specs.declared.report_line.ReportLine.TheVariants.{HealthLine}

abbrev pub dropped_note : Option ℕ → List HealthNote
dropped_note None = []
dropped_note (Some count) = Dropped count ∷ []

abbrev pub dead_note : Bool → List HealthNote
dead_note false = []
dead_note true = DeadSound ∷ []

abbrev pub stats_note : Option Counts → List HealthNote
stats_note None = []
stats_note (Some counts) = Stats counts ∷ []

abbrev pub notes_in : HealthNotes → List HealthNote
notes_in notes = dropped_note notes.dropped ++ dead_note notes.dead ++ stats_note notes.stats

-- a line of the report that tells of the station's health
abbrev pub health_line : HealthNote → ReportLine
health_line note = HealthLine note

abbrev pub health_lines : HealthNotes → List ReportLine
health_lines notes = map health_line (notes_in notes)
