-- A live station as a whole: it listens, a pump publishes the samples of its input in a ring, and a run reads them
-- there.
use Rattle.std.specs.Prelude.{◌≡◌, ℕ, ℤ, ◌≤◌, ◌⊎◌, true, List, [], ◌∷◌, length, map, All, Some}
use Rattle.sample_ring.specs.declared.got.Got.{Got}
use Rattle.sample_ring.specs.declared.view.Track.{Track}
use Rattle.sample_ring.specs.Record.{StandsIn, answer}
use Rattle.slicer_bank.specs.RingTurns.{MeetsEnd}
use Rattle.tnc_base.specs.Streams.{SourceTold}
use Rattle.tnc_base.specs.Faults.{HasRisen}
use Rattle.tnc_ports.specs.declared.pumping.PumpEnd.{PumpEnd}
use Rattle.tnc_ports.specs.declared.pumping.PumpEnd.TheVariants.{InputEnd, ReadFault as PumpFailed}
use Rattle.tnc_ports.specs.declared.pumping.PumpEnd.TheVariants.{TooLong as InputTooLong}
use Rattle.tnc_ports.specs.declared.serving.ServeEnd.{ServeEnd}
use Rattle.tnc_ports.specs.declared.serving.ServeEnd.TheVariants.{Done, TooLong, Memory, ReadFault, WriteFault, NoPort}
use Rattle.tnc_ports.specs.declared.serving.ServeEnd.TheVariants.{NoThread}
use Rattle.tnc_ports.specs.declared.serve_words.ServeWords.{ServeWords}
use Rattle.tnc_ports.specs.declared.looping.LoopEnd.{LoopEnd}
use Rattle.tnc_ports.specs.declared.looping.LoopEnd.TheVariants.{Done as LoopDone, Memory as LoopMemory}
use Rattle.tnc_ports.specs.declared.looping.LoopEnd.TheVariants.{WriteFault as LoopFault}
use Rattle.tnc_ports.specs.Pumped.{IsPumped}
pub use Rattle.tnc_ports.specs.PumpRun.{ReadFaults}
use Rattle.tnc_ports.specs.SampledRun.{Outside, GrowsBy, IsLooped}

-- ---- what the readers were answered, and what was published

-- the cells of the ring
abbrev pub ring_cells : ℕ
ring_cells = 65536

-- all that a reader was answered
abbrev pub answers_of_record : Track → List Got
answers_of_record track = map (answer ring_cells) track.reads

-- The records of readers stand in the published list: each sample is that of its position, and each gap is a part
-- that was overwritten. If a reader has met the end, its samples and gaps tile the whole list.
pub record LanesStandIn (published : List ℤ) (lanes : List (List Got)) : Type 0 where
  pub records : List Track
  pub answers : lanes ≡ map answers_of_record records
  pub stand : All (StandsIn ring_cells published true) records
  pub whole : All (λ track. MeetsEnd (answers_of_record track) → track.at ≡ length published) records

-- ---- serving

-- How serving ends by the ends of the loop and of the pump, of which the loop's counts first.
abbrev pub end_of : LoopEnd → PumpEnd → ServeEnd
end_of LoopDone InputEnd = Done
end_of LoopDone PumpFailed = ReadFault
end_of LoopDone InputTooLong = TooLong
end_of LoopMemory pump = Memory
end_of LoopFault pump = WriteFault

-- The ports are lent, and do nothing but listen; nothing is written.
pub record OnlyListens (before after : Outside) : Type 0 where
  pub polls : after.ports.polls ≡ before.ports.polls
  pub sends : after.ports.sends ≡ before.ports.sends
  pub sent_to : (id : ℕ) → after.ports.sent id ≡ before.ports.sent id
  pub is_shut : (id : ℕ) → after.ports.is_shut id ≡ before.ports.is_shut id
  pub faults : before.ports.faults ≤ after.ports.faults
  pub line : after.line ≡ before.line
  pub output : after.output ≡ before.output
  pub report : after.report ≡ before.report

-- the ports of the words are opened
pub record HasOpened (words : ServeWords) (before after : Outside) : Type 0 where
  pub opened : GrowsBy (words.listen ∷ []) before.ports.listens after.ports.listens
  pub only : OnlyListens before after

-- the ports could not be opened
pub record HasNoPort (before after : Outside) : Type 0 where
  pub listens : after.ports.listens ≡ before.ports.listens
  pub only : OnlyListens before after
  pub failed : HasRisen before.ports.faults after.ports.faults

-- The ports are opened. The pump publishes the modem's samples of what it reads of the input, and beside it the loop's
-- readers read what is published.
pub record HasServed (words : ServeWords) (end : ServeEnd) (input left : SourceTold) (before after : Outside)
    : Type 0 where
  pub open_ports : Outside
  pub opens : HasOpened words before open_ports
  pub loop : LoopEnd
  pub lanes : List (List Got)
  pub looped : IsLooped words loop lanes open_ports after
  pub pump : PumpEnd
  pub published : List ℤ
  pub pumped : (octets : List ℕ) → input.left ≡ Some octets → IsPumped words.rate octets left.left published pump
  pub faults : ReadFaults pump input left
  pub stand : LanesStandIn published lanes
  pub ends : end ≡ end_of loop pump

-- without memory for the ring nothing is read
pub record HasNoRing (words : ServeWords) (input left : SourceTold) (before after : Outside) : Type 0 where
  pub opens : HasOpened words before after
  pub unread : left ≡ input

-- Without a thread for the pump nothing is read, and no turn is made.
pub record HasNoThread (words : ServeWords) (input left : SourceTold) (before after : Outside) : Type 0 where
  pub opens : HasOpened words before after
  pub unread : left ≡ input

abbrev pub IsServed : ServeWords → ServeEnd → SourceTold → SourceTold → Outside → Outside → Type 0
IsServed words Done input left before after = HasServed words Done input left before after
IsServed words TooLong input left before after = HasServed words TooLong input left before after
IsServed words Memory input left before after =
    HasNoRing words input left before after ⊎ HasServed words Memory input left before after
IsServed words NoThread input left before after = HasNoThread words input left before after
IsServed words ReadFault input left before after = HasServed words ReadFault input left before after
IsServed words WriteFault input left before after = HasServed words WriteFault input left before after
IsServed words NoPort input left before after = (left ≡ input) × HasNoPort before after
