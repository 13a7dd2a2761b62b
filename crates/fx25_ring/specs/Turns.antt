-- What one turn of reads makes of a receiver.
use Rattle.std.specs.Prelude.{◌≡◌, ◌≤◌, ℕ, false, [], ◌∷◌}
use Rattle.std.specs.List.{All}
use Rattle.hdlc_framer.specs.FrameLength.{HasFrameLength}
use Rattle.slicer_bank.specs.HeardOnRing.{least_position}
use Rattle.ring_receiver.specs.declared.heard.Heard.{Heard}
use Rattle.ring_receiver.specs.Turns.{IsTurnOf}
use Rattle.fx25_ring.specs.HeardInBlocks.{AreDueInBlocks}
use Rattle.fx25_ring.specs.Held.{HeldReceiver, AreInStep, BlocksHeard, BlockLanesListen, block_answers}
use Rattle.fx25_ring.specs.Held.{sensitive_of_blocks}

-- a receiver has made a turn, which brought this
pub record MakesTurn (len : ℕ) (before after : HeldReceiver) (heard : Heard) : Type 0 where
  pub turn : IsTurnOf 1 (block_answers len before ∷ []) (block_answers len after ∷ []) heard.gaps.items heard.ended
  pub listens : BlockLanesListen len before → BlockLanesListen len after
  pub due : BlocksHeard len before → AreDueInBlocks (sensitive_of_blocks before) heard.ended (block_answers len before)
      (block_answers len after) heard.items.items
  pub lengths : BlocksHeard len before → All (λ item. HasFrameLength item.octets) heard.items.items
  pub hears : heard.ended ≡ false → BlocksHeard len before → BlocksHeard len after
  pub least : BlocksHeard len before → heard.least ≡ least_position (block_answers len after ∷ [])
  pub forward : BlocksHeard len before → least_position (block_answers len before ∷ []) ≤ heard.least
  pub step : heard.ended ≡ false → AreInStep after.reader after.lanes
