-- What the code keeps of a recording between two turns, and what a turn makes of it. No public clause cites this.
use Rattle.std.specs.Prelude.{◌≡◌, ℕ, ◌⊎◌, Bool, true, false, List, ◌++◌, All, take}
use Rattle.sample_ring.specs.declared.ring.Ring.{Ring}
use Rattle.sample_ring.specs.Ends.{ring_id, reader_ring}
use Rattle.ring_receiver.specs.HeldReceiver.{readers_in, answers_in, Hears as HearsSoFar}
use Rattle.ring_recorder.specs.Recording.{answers_of}
use Rattle.ring_recorder.specs.Held.{StandsFor}
use Rattle.tnc_base.specs.Streams.{SinkTold}
use Rattle.tnc_ports.specs.SampledWrites.{Puts}
use Rattle.tnc_record.specs.declared.listening.Listening.{Listening}
use Rattle.tnc_record.specs.declared.recording.RecordWords.{RecordWords}
use Rattle.tnc_record.specs.RecordText.{Line, report_text}
use Rattle.tnc_record.specs.RecordTurns.{Recording, new_recording, IsTurn, IsCutInHearing, IsCutInRecording, HasEnded}
use Rattle.tnc_record.specs.RecordTurns.{AreTurns, HearsUnlessOver}

-- all readers are those of the ring
pub record ReadsRing (ring : Ring) (listening : Listening) : Type 0 where
  pub receiver : All (λ reader. reader_ring reader ≡ ring_id ring) (readers_in listening.receiver)
  pub recorder : reader_ring listening.recorder.reader ≡ ring_id ring

-- What the readers were answered is that of the recording. A receiver has at most nine, though after want of memory its
-- clauses do not say so.
pub record IsAnswered (len : ℕ) (listening : Listening) (recording : Recording) : Type 0 where
  pub lanes : take 9 (answers_in len listening.receiver) ≡ recording.lanes
  pub recorded : answers_of len listening.recorder.reader ≡ recording.recorded
  pub stands : StandsFor len listening.recorder

-- and the receiver has heard all of it
pub record StandsForRecording (words : RecordWords) (len : ℕ) (listening : Listening) (recording : Recording)
    : Type 0 where
  pub answered : IsAnswered len listening recording
  pub all_lanes : answers_in len listening.receiver ≡ recording.lanes
  pub over : listening.over ≡ recording.over
  pub hears : listening.over ≡ false → HearsSoFar len listening.receiver
  pub sensitive : listening.receiver.sensitive ≡ words.sensitive
  pub keep : listening.recorder.keep ≡ words.keep

-- what came to the report is put there
pub record ReportsMore (failed failed' : Bool) (before after : Recording) (report report' : SinkTold) : Type 0 where
  pub lines : List Line
  pub more : after.lines ≡ before.lines ++ lines
  pub puts : Puts failed failed' (report_text lines) report report'

-- ---- a turn

-- what the receiver heard is reported, unless it was over
pub record HearsMore (words : RecordWords) (before after : Listening) (len : ℕ) (recording : Recording)
    (report report' : SinkTold) : Type 0 where
  pub next : Recording
  pub hears : HearsUnlessOver recording.over words.sensitive recording next
  pub stands : StandsForRecording words len after next
  pub writes : ReportsMore before.failed after.failed recording next report report'

-- it read on, and nothing was reported
pub record StopsHearing (words : RecordWords) (before after : Listening) (len : ℕ) (recording : Recording)
    (report report' : SinkTold) : Type 0 where
  pub next : Recording
  pub cut : IsCutInHearing words.sensitive recording next
  pub answered : IsAnswered len after next
  pub unwritten : (report' ≡ report) × (after.failed ≡ before.failed)

-- a turn after which all have met the end, or not
pub record Turns (words : RecordWords) (ended : Bool) (before after : Listening) (len : ℕ) (recording : Recording)
    (report report' : SinkTold) : Type 0 where
  pub next : Recording
  pub turn : IsTurn words.sensitive recording next
  pub stands : StandsForRecording words len after next
  pub writes : ReportsMore before.failed after.failed recording next report report'
  pub over : ended ≡ true → HasEnded next
  pub goes_on : ended ≡ false → ¬ HasEnded next

-- a turn that is cut short
pub record IsCutOff (words : RecordWords) (before after : Listening) (len : ℕ) (recording : Recording)
    (report report' : SinkTold) : Type 0 where
  pub next : Recording
  pub cut : IsCutInHearing words.sensitive recording next ⊎ IsCutInRecording words.sensitive recording next
  pub answered : IsAnswered len after next
  pub writes : ReportsMore before.failed after.failed recording next report report'

-- ---- all turns so far

-- so many turns were made since the first
pub record Runs (words : RecordWords) (listening : Listening) (len : ℕ) (start now : SinkTold) : Type 0 where
  pub count : ℕ
  pub recording : Recording
  pub turns : AreTurns words.sensitive count (new_recording words.sensitive) recording
  pub goes_on : ¬ HasEnded recording
  pub stands : StandsForRecording words len listening recording
  pub writes : Puts false listening.failed (report_text recording.lines) start now
