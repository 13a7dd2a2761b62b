-- With fewer octets unknown the block carries no frame.
use Rattle.fx25_blocks.proofs.Common.{ℕ, ◌*◌, ◌/◌, ◌<◌, List, check_count}
use Rattle.fx25_blocks.specs.UnknownOctets.{CarriesWithUnknown}
use Rattle.fx25_blocks.proofs.unknown_octets.block_with_unknown.Given as goal

abbrev pub invariant-loop-eighths : goal.invariant-loop-eighths
invariant-loop-eighths l = (fewer : ℕ) → fewer < l.eighths → (frame : List ℕ) → (over : ℕ)
    → ¬ CarriesWithUnknown l.tag (fewer * (check_count l.tag / 8)) l.octets l.certainty frame over
