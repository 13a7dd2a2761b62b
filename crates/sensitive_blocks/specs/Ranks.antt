-- What is taken of an end by one lane: plain frames first, then those of the tags' blocks, each at a rank of its own.
use Rattle.std.specs.Prelude.{◌≡◌, ℕ, ◌+◌, true, ℤ, List, ◌++◌}
use Rattle.fx25_receiver.specs.declared.heard.Heard.{Heard}
use Rattle.sensitive_blocks.specs.declared.hearing.Bit.{Bit}
use Rattle.sensitive_blocks.specs.Bits.{lane_tones, lane_certainties, reads, ends}
use Rattle.sensitive_blocks.specs.HeldLane.{HeldLane, LaneHasRead}
use Rattle.sensitive_blocks.specs.Taken.{HasTakenBelow}

-- With a lane that has read a bit, what stands at the bit's end from a rank to below another was taken as well, after all that
-- stands below them.
abbrev pub TakesRanks : HeldLane → Bit → ℕ → ℕ → List Heard → List Heard → List Heard → List Heard → Type 0
TakesRanks lane bit first end kept given kept_then given_then = (x : List ℤ) (before : List Heard) → reads x bit.lane bit.end ≡ true
    → LaneHasRead lane (lane_tones x bit.lane (bit.end + 1)) (lane_certainties x bit.lane (bit.end + 1))
    (ends x bit.lane (bit.end + 1))
    → HasTakenBelow bit.end first kept x (before ++ given)
    → HasTakenBelow bit.end end kept_then x (before ++ given_then)
