use Rattle.fx25_receiver.proofs.HearingLemmas.{HasHeardTags}
use Rattle.fx25_receiver.proofs.hearing.hear_tags.Given as goal

abbrev pub invariant-loop-below : goal.invariant-loop-below
invariant-loop-below l =
    HasHeardTags l.fn.lane l.fn.place l.initial.kept.items l.initial.given.items l.kept.items l.given.items l.below
