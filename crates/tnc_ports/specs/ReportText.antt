-- What a live station writes: the text of its report, line by line, and the octets of its output.
use Rattle.std.specs.Prelude.{ℕ, ℤ, List, [], ◌∷◌, ◌++◌, codes, decimal}
use Rattle.std.specs.Int.{cast_unsigned, w16}
use Rattle.std.specs.List.{flat_map}
use Rattle.byteorder.specs.Endian.{little_bytes}
use Rattle.host_ports.specs.declared.report_line.ReportLine.{ReportLine}
use Rattle.host_ports.specs.declared.report_line.ReportLine.TheVariants.{GapLine, ClosedLine, ReceivedLine, SentLine}
use Rattle.host_ports.specs.declared.report_line.ReportLine.TheVariants.{KeyLine, HealthLine}
use Rattle.host_ports.specs.declared.health_note.Counts.{Counts}
use Rattle.host_ports.specs.declared.health_note.HealthNote.{HealthNote}
use Rattle.host_ports.specs.declared.health_note.HealthNote.TheVariants.{Dropped, DeadSound, Stats}
use Rattle.keying.specs.Texts.{report_text as key_text}

-- ---- the report

-- what was counted of the sound and of the channel, after how many ticks were made
abbrev pub sound_text : Counts → List ℕ
sound_text counts =
    decimal counts.ticks ++ codes " peak " ++ decimal counts.peak ++ codes " clipped " ++ decimal counts.clipped
    ++ codes " busy " ++ decimal counts.busy

-- what was counted of frames, and how many hosts and links there are
abbrev pub frames_text : Counts → List ℕ
frames_text counts =
    codes " heard " ++ decimal counts.heard ++ codes " sent " ++ decimal counts.sent
    ++ codes " dropped " ++ decimal counts.dropped ++ codes " hosts " ++ decimal counts.hosts
    ++ codes " links " ++ decimal counts.links

-- what was counted
abbrev pub counts_text : Counts → List ℕ
counts_text counts = codes "stats " ++ sound_text counts ++ frames_text counts

-- what is told of the station's health
abbrev pub note_text : HealthNote → List ℕ
note_text (Dropped count) = codes "dropped " ++ decimal count
note_text DeadSound = codes "dead sound"
note_text (Stats counts) = counts_text counts

-- the text of a line, without the line feed that ends it
abbrev pub line_text : ReportLine → List ℕ
line_text (GapLine lane from to) =
    codes "gap " ++ decimal lane ++ codes " " ++ decimal from ++ codes " " ++ decimal to
line_text (ClosedLine id) = codes "closed " ++ decimal id
line_text (ReceivedLine text) = codes "rx " ++ text
line_text (SentLine text) = codes "tx " ++ text
line_text (KeyLine report) = key_text report
line_text (HealthLine note) = note_text note

-- a line, and the line feed that ends it
abbrev pub ended_line : ReportLine → List ℕ
ended_line line = line_text line ++ 10 ∷ []

abbrev pub report_text : List ReportLine → List ℕ
report_text lines = flat_map ended_line lines

-- ---- the output

-- the two octets of a sample in two's complement, the low one first
abbrev pub sample_octets : ℤ → List ℕ
sample_octets sample = little_bytes 2 (cast_unsigned w16 sample)

abbrev pub output_octets : List ℤ → List ℕ
output_octets samples = flat_map sample_octets samples
