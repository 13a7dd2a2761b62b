-- What has been taken of the blocks of the first tags.
use Rattle.sensitive_blocks.proofs.Common.{◌+◌, ◌*◌}
use Rattle.sensitive_blocks.specs.Ranks.{TakesRanks}
use Rattle.sensitive_blocks.proofs.hearing.hear_tags.Given as goal

abbrev pub invariant-loop-below : goal.invariant-loop-below
invariant-loop-below l = TakesRanks l.fn.lane l.fn.bit (256 * l.fn.bit.lane + 1) (256 * l.fn.bit.lane + (l.below + 1))
    l.initial.kept.items l.initial.given.items l.kept.items l.given.items
