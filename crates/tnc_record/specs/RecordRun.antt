-- A recording as a whole: a pump publishes the samples of its input in a ring, and a run reads them there, reports what
-- it hears and at its end what the recorder lost, and writes the sound.
use Rattle.std.specs.Prelude.{◌≡◌, ℕ, ℤ, ◌⊎◌, true, List, length, All, Some, slice_get}
use Rattle.sample_ring.specs.declared.got.Got.{Got}
use Rattle.sample_ring.specs.declared.view.Track.{Track}
use Rattle.sample_ring.specs.Record.{StandsIn}
use Rattle.ring_recorder.specs.Recording.{items, losses, has_ended}
use Rattle.ring_recorder.specs.Tiling.{Tile}
use Rattle.tnc_base.specs.Streams.{SinkTold, SourceTold}
use Rattle.tnc_ports.specs.declared.looping.LoopEnd.{LoopEnd}
use Rattle.tnc_ports.specs.declared.looping.LoopEnd.TheVariants.{Done as LoopDone, Memory as LoopMemory}
use Rattle.tnc_ports.specs.declared.looping.LoopEnd.TheVariants.{WriteFault as LoopFault}
use Rattle.tnc_ports.specs.declared.pumping.PumpEnd.{PumpEnd}
use Rattle.tnc_ports.specs.declared.pumping.PumpEnd.TheVariants.{InputEnd, ReadFault as PumpFailed}
use Rattle.tnc_ports.specs.declared.pumping.PumpEnd.TheVariants.{TooLong as InputTooLong}
use Rattle.sound_rate.specs.declared.rate.Rate.TheVariants.{Narrow}
use Rattle.tnc_ports.specs.Pumped.{IsPumped}
use Rattle.tnc_ports.specs.PumpRun.{ReadFaults}
use Rattle.tnc_ports.specs.ServeRun.{LanesStandIn, ring_cells, answers_of_record}
use Rattle.tnc_record.specs.declared.recording.RecordEnd.{RecordEnd}
use Rattle.tnc_record.specs.declared.recording.RecordEnd.TheVariants.{Done, TooLong, Memory, NoThread, ReadFault}
use Rattle.tnc_record.specs.declared.recording.RecordEnd.TheVariants.{WriteFault}
use Rattle.tnc_record.specs.declared.recording.RecordWords.{RecordWords}
use Rattle.tnc_record.specs.RecordLoop.{IsLooped}
use Rattle.tnc_record.specs.RecordTurns.{Recording}

-- ---- what was recorded, and what was published

-- The record of the recorder's reader stands in the published list, so each sample is that of its position. If it has
-- met the end, samples and losses tile the whole list.
pub record IsRecordedFrom (published : List ℤ) (recorded : List Got) : Type 0 where
  pub track : Track
  pub answers : recorded ≡ answers_of_record track
  pub stand : StandsIn ring_cells published true track
  pub samples : All (λ item. slice_get published item.at ≡ Some item.sample) (items recorded)
  pub whole : has_ended recorded ≡ true → Tile (length published) (items recorded) (losses recorded)

-- ---- recording

-- How recording ends by the ends of the loop and of the pump, of which the loop's counts first.
abbrev pub end_of : LoopEnd → PumpEnd → RecordEnd
end_of LoopDone InputEnd = Done
end_of LoopDone PumpFailed = ReadFault
end_of LoopDone InputTooLong = TooLong
end_of LoopMemory pump = Memory
end_of LoopFault pump = WriteFault

-- The pump publishes the samples of what it reads of the input, and beside it the loop's readers read what is
-- published.
pub record HasRecorded (words : RecordWords) (end : RecordEnd) (input left : SourceTold)
    (output output' report report' : SinkTold) : Type 0 where
  pub recording : Recording
  pub loop : LoopEnd
  pub looped : IsLooped words loop recording output output' report report'
  pub pump : PumpEnd
  pub published : List ℤ
  pub pumped : (octets : List ℕ) → input.left ≡ Some octets → IsPumped Narrow octets left.left published pump
  pub faults : ReadFaults pump input left
  pub lanes : LanesStandIn published recording.lanes
  pub recorded : IsRecordedFrom published recording.recorded
  pub ends : end ≡ end_of loop pump

-- nothing is read and nothing written
pub record DoesNothing (input left : SourceTold) (output output' report report' : SinkTold) : Type 0 where
  pub unread : left ≡ input
  pub no_output : output' ≡ output
  pub no_report : report' ≡ report

-- Without memory for the ring, the receiver and the recorder nothing is done, and nothing without a thread for the
-- pump.
abbrev pub IsRecorded : RecordWords → RecordEnd → SourceTold → SourceTold → SinkTold → SinkTold → SinkTold → SinkTold
    → Type 0
IsRecorded words Done input left output output' report report' =
    HasRecorded words Done input left output output' report report'
IsRecorded words TooLong input left output output' report report' =
    HasRecorded words TooLong input left output output' report report'
IsRecorded words Memory input left output output' report report' =
    DoesNothing input left output output' report report'
    ⊎ HasRecorded words Memory input left output output' report report'
IsRecorded words NoThread input left output output' report report' =
    DoesNothing input left output output' report report'
IsRecorded words ReadFault input left output output' report report' =
    HasRecorded words ReadFault input left output output' report report'
IsRecorded words WriteFault input left output output' report report' =
    HasRecorded words WriteFault input left output output' report report'
