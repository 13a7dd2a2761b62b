use Rattle.fx25_receiver.proofs.Common.{ℕ, ℤ, ◌<◌, List, bits, LanesStandFor}
use Rattle.fx25_blocks.specs.Coming.{IsBlockComing}
use Rattle.fx25_receiver.proofs.lane.is_some_block_coming.Given as goal

abbrev pub invariant-loop-lane : goal.invariant-loop-lane
invariant-loop-lane l = (x : List ℤ) → LanesStandFor l.lanes x → (k : ℕ) → k < l.lane-index
    → IsBlockComing (bits k x) → ⊥
