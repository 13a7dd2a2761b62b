-- What a turn makes of a receiver.
use Rattle.std.specs.Prelude.{◌≡◌, ℕ, ◌<◌, ◌≤◌, ◌^◌, Bool, false, Option, length, is_some}
use Rattle.std.specs.List.{All}
use Rattle.atomic_table.specs.Seated.{TableId}
use Rattle.hdlc_framer.specs.FrameLength.{HasFrameLength}
use Rattle.sample_ring.specs.Ends.{reader_ring}
use Rattle.frame_merge.specs.Held.{Held as HeldMerger}
use Rattle.slicer_bank.specs.HeardOnRing.{least_position}
use Rattle.slicer_bank.specs.RingLanes.{HeldRingBank, readers_in as readers_of_bank}
use Rattle.ring_receiver.specs.declared.added_ring.AddedRing.{AddedRing}
use Rattle.ring_receiver.specs.declared.heard.Heard.{Heard}
use Rattle.ring_receiver.specs.HeardByAll.{AreDueBy}
use Rattle.ring_receiver.specs.HeldReceiver.{HeldReceiver, readers_in, records_in, answers_in, EightListen, Hears}
use Rattle.ring_receiver.specs.HeldReceiver.{heard_to, read_to, marks_of}
use Rattle.ring_receiver.specs.Readers.{readers_wanted}
use Rattle.ring_receiver.specs.Turns.{AreGrownBy, IsTurnOf}

-- a receiver of these parts
abbrev pub held_of : HeldRingBank → Option AddedRing → HeldMerger → Bool → HeldReceiver
held_of bank added merger spent = record {
  sensitive = is_some added;
  detection = bank.detection;
  bank = bank;
  added = added;
  merger = merger;
  spent = spent;
}

-- what holds of its parts while nothing is spent: the added lanes have heard as far as their reader has read, and the
-- marks are in place
pub record AreInStep (bank : HeldRingBank) (added : Option AddedRing) (merger : HeldMerger) : Type 0 where
  pub read : heard_to added ≡ read_to added
  pub room : read_to added < 2 ^ 48
  pub marks : merger.marks ≡ marks_of bank added

-- the readers are still those of a ring, and have only read more
pub record ReadersStay (ring : TableId) (before after : HeldReceiver) : Type 0 where
  pub eight : length (readers_of_bank after.bank) ≡ 8
  pub rings : All (λ reader. reader_ring reader ≡ ring) (readers_in after)
  pub grown : AreGrownBy (readers_wanted before.sensitive) (records_in before) (records_in after)
  pub detection : after.detection ≡ before.detection
  pub sensitive : after.sensitive ≡ before.sensitive

-- a receiver has made a turn, which brought this
pub record MakesTurn (len : ℕ) (before after : HeldReceiver) (heard : Heard) : Type 0 where
  pub turn : IsTurnOf (readers_wanted before.sensitive) (answers_in len before) (answers_in len after) heard.gaps.items
      heard.ended
  pub listens : EightListen len before → EightListen len after
  pub due : Hears len before
      → AreDueBy before.sensitive heard.ended (answers_in len before) (answers_in len after) heard.items.items
  pub lengths : Hears len before → All (λ item. HasFrameLength item.octets) heard.items.items
  pub hears : heard.ended ≡ false → Hears len before → Hears len after
  pub least : Hears len before → heard.least ≡ least_position (answers_in len after)
  pub forward : Hears len before → least_position (answers_in len before) ≤ heard.least
  pub step : heard.ended ≡ false → AreInStep after.bank after.added after.merger
