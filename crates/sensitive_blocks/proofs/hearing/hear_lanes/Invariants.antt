use Rattle.sensitive_blocks.proofs.HearingLemmas.{HaveHeard}
use Rattle.sensitive_blocks.proofs.hearing.hear_lanes.Given as goal

abbrev pub invariant-loop-lane : goal.invariant-loop-lane
invariant-loop-lane l =
    HaveHeard l.moment l.follower l.end l.initial.lanes l.lanes l.initial.kept.items l.initial.given.items l.kept.items
    l.given.items l.lane
