-- The loop of a recording: its turns, and what is written of them and past the last.
use Rattle.std.specs.Prelude.{◌≡◌, ℕ, ◌⊎◌}
use Rattle.tnc_base.specs.Streams.{SinkTold}
use Rattle.tnc_base.specs.Faults.{HasRisen}
use Rattle.ring_recorder.specs.Recording.{sound}
use Rattle.ring_recorder.specs.Wave.{wave_of}
use Rattle.tnc_ports.specs.declared.looping.LoopEnd.{LoopEnd}
use Rattle.tnc_ports.specs.declared.looping.LoopEnd.TheVariants.{Done, Memory, WriteFault}
use Rattle.tnc_ports.specs.SampledWrites.{PutsAll, PutsPart}
use Rattle.tnc_record.specs.declared.recording.RecordWords.{RecordWords}
use Rattle.tnc_record.specs.RecordText.{report_text}
use Rattle.tnc_record.specs.RecordTurns.{Recording, lines_of, IsRun, IsCutRun}

-- ---- what is written

-- the output is the WAV file of the sound, the report is its lines, and no write failed
pub record AllIsWritten (keep : ℕ) (recording : Recording) (output output' report report' : SinkTold) : Type 0 where
  pub wave : PutsAll (wave_of (sound keep recording.recorded)) output output'
  pub lines : PutsAll (report_text (lines_of recording)) report report'

-- a write failed, and the output and the report are first parts of these
pub record PartIsWritten (keep : ℕ) (recording : Recording) (output output' report report' : SinkTold) : Type 0 where
  pub wave : PutsPart (wave_of (sound keep recording.recorded)) output output'
  pub lines : PutsPart (report_text (lines_of recording)) report report'
  pub failed : HasRisen output.faults output'.faults ⊎ HasRisen report.faults report'.faults

-- Nothing came to the output, and to the report the lines of the turns; or a first part of these, if a write failed.
pub record TurnsAreWritten (recording : Recording) (output output' report report' : SinkTold) : Type 0 where
  pub no_wave : output' ≡ output
  pub lines : PutsAll (report_text recording.lines) report report'
      ⊎ (PutsPart (report_text recording.lines) report report' × HasRisen report.faults report'.faults)

-- The loop by how it ends: all of a whole run is written; or after a write that failed the run went on to its end; or
-- memory was wanted in a turn, or past the last one for the lines of the losses.
abbrev pub IsLooped : RecordWords → LoopEnd → Recording → SinkTold → SinkTold → SinkTold → SinkTold → Type 0
IsLooped words Done recording output output' report report' =
    IsRun words.sensitive recording × AllIsWritten words.keep recording output output' report report'
IsLooped words WriteFault recording output output' report report' =
    IsRun words.sensitive recording × PartIsWritten words.keep recording output output' report report'
IsLooped words Memory recording output output' report report' =
    (IsRun words.sensitive recording ⊎ IsCutRun words.sensitive recording)
    × TurnsAreWritten recording output output' report report'
