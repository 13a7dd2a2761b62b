-- A run of `record`: what it is asked for, how it ends, and what is told last.
use Rattle.std.specs.Prelude.{◌≡◌, ◌⊎◌, ℕ, List, Option, Some, None}
use Rattle.tnc_base.specs.Streams.{SinkTold, SourceTold}
use Rattle.tnc_words.specs.declared.command.RecordOptions.{RecordOptions}
use Rattle.tnc_forms.specs.declared.fault.InputFault.TheVariants.{TooLong as InputTooLong}
use Rattle.tnc_record.specs.declared.recording.RecordEnd.{RecordEnd}
use Rattle.tnc_record.specs.declared.recording.RecordEnd.TheVariants.{Done, TooLong, Memory, NoThread, ReadFault}
use Rattle.tnc_record.specs.declared.recording.RecordEnd.TheVariants.{WriteFault}
use Rattle.tnc_record.specs.declared.recording.RecordWords.{RecordWords}
use Rattle.tnc_record.specs.RecordRun.{DoesNothing, IsRecorded}
use Rattle.tnc_main.specs.declared.status.Status.{Status}
use Rattle.tnc_main.specs.declared.status.Status.TheVariants.{Done as WellDone, BadInput, Memory as NoMemory}
use Rattle.tnc_main.specs.declared.status.Status.TheVariants.{ReadFault as InputFailed, WriteFault as OutputFailed}
use Rattle.tnc_main.specs.EndTold.{IsEndTold}
use Rattle.tnc_main.specs.Report.{input_line}

-- the sound and the lanes that the options ask for
abbrev pub words_of : RecordOptions → RecordWords
words_of options = record { keep = options.keep; sensitive = options.sensitive }

-- the status of an end
abbrev pub status_of_end : RecordEnd → Status
status_of_end Done = WellDone
status_of_end TooLong = BadInput
status_of_end Memory = NoMemory
status_of_end NoThread = NoMemory
status_of_end ReadFault = InputFailed
status_of_end WriteFault = OutputFailed

-- the last line of the report, if an end has one
abbrev pub last_line : RecordEnd → Option (List ℕ)
last_line Done = None
last_line TooLong = Some (input_line InputTooLong)
last_line Memory = None
last_line NoThread = None
last_line ReadFault = None
last_line WriteFault = None

-- The sound was recorded until an end, and the end was told last.
pub record Records (words : RecordWords) (status : Status) (input left : SourceTold)
    (output output' report report' : SinkTold) : Type 0 where
  pub end : RecordEnd
  -- what the report told when recording had ended
  pub between : SinkTold
  pub recorded : IsRecorded words end input left output output' report between
  pub told : IsEndTold (last_line end) (status_of_end end) status between report'

-- The options are those of `record`: the sound was recorded, or there was no memory to begin.
abbrev pub RunsRecord : RecordOptions → Status → SourceTold → SourceTold → SinkTold → SinkTold → SinkTold → SinkTold
    → Type 0
RunsRecord options status input left output output' report report' =
    ((status ≡ NoMemory) × DoesNothing input left output output' report report')
    ⊎ Records (words_of options) status input left output output' report report'
