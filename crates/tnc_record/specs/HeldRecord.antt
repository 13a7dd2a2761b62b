-- The loop beside the pump, and the ring once both have ended. No public clause cites this.
use Rattle.std.specs.Prelude.{◌≡◌, ℕ, ℤ, Bool, true, false, List, Some}
use Rattle.tnc_base.specs.Streams.{SinkTold, SourceTold}
use Rattle.tnc_ports.specs.declared.looping.LoopEnd.{LoopEnd}
use Rattle.tnc_ports.specs.declared.pumping.PumpEnd.{PumpEnd}
use Rattle.sound_rate.specs.declared.rate.Rate.TheVariants.{Narrow}
use Rattle.tnc_ports.specs.Pumped.{IsPumped}
use Rattle.tnc_ports.specs.PumpRun.{ReadFaults}
use Rattle.tnc_ports.specs.ServeRun.{LanesStandIn}
use Rattle.tnc_record.specs.declared.listening.Listening.{Listening}
use Rattle.tnc_record.specs.declared.recording.RecordEnd.{RecordEnd}
use Rattle.tnc_record.specs.declared.recording.RecordWords.{RecordWords}
use Rattle.tnc_record.specs.HeldListening.{IsAnswered}
use Rattle.tnc_record.specs.RecordLoop.{IsLooped}
use Rattle.tnc_record.specs.RecordRun.{IsRecordedFrom, end_of}
use Rattle.tnc_record.specs.RecordTurns.{Recording}

-- the turns are made exactly if the pump begins
abbrev pub LoopsIf : Bool → RecordWords → LoopEnd → ℕ → Listening → SinkTold → SinkTold → SinkTold → SinkTold → Type 0
LoopsIf true words end len listening output output' report report' =
    (recording : Recording) × IsAnswered len listening recording
    × IsLooped words end recording output output' report report'
LoopsIf false words end len listening output output' report report' = (output' ≡ output) × (report' ≡ report)

-- the ring is closed after the loop and the pump
pub record IsClosed (loop : LoopEnd) (end : RecordEnd) (recording : Recording) (input left : SourceTold) : Type 0 where
  pub pump : PumpEnd
  pub published : List ℤ
  pub pumped : (octets : List ℕ) → input.left ≡ Some octets → IsPumped Narrow octets left.left published pump
  pub faults : ReadFaults pump input left
  pub lanes : LanesStandIn published recording.lanes
  pub recorded : IsRecordedFrom published recording.recorded
  pub ends : end ≡ end_of loop pump
