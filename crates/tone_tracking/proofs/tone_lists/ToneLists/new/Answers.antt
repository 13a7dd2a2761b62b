use Rattle.tone_tracking.proofs.Common.{correlations}
use Rattle.tone_tracking.proofs.ListsLemmas.{taken_none, all_within-none, all_small-none}
use Rattle.tone_tracking.proofs.tone_lists.ToneLists.new.Goals as goal

pub returns-clause-has_taken : goal.returns-clause-has_taken
returns-clause-has_taken c = λ x.
    taken_none x _ _ c.new.result c.new-2.result c.new-3.result c.new.ensures.place c.new-2.ensures.place
    c.new-3.ensures.place (c.new.ensures.stands_for (correlations x)) (c.new-2.ensures.stands_for (correlations x))
    (c.new-3.ensures.stands_for (correlations x))

pub invariant_of-result : goal.invariant_of-result
invariant_of-result c = (
  all_small-none 262144 16,
  all_within-none,
  c.new.ensures.reach,
  c.new-2.ensures.reach,
  c.new-3.ensures.reach,
  c.new.ensures.place,
  c.new-2.ensures.place,
  c.new-3.ensures.place,
)
