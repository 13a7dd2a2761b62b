use Rattle.hf_tracking.proofs.Common.{correlations}
use Rattle.hf_tracking.proofs.TonesLemmas.{taken_none, all_small-none}
use Rattle.hf_tracking.proofs.hf_tones.HfTones.new.Goals as goal

pub returns-clause-has_taken : goal.returns-clause-has_taken
returns-clause-has_taken c = λ x.
    taken_none x c.args.bank _ _ c.new.result c.new.ensures.place (c.new.ensures.stands_for (correlations c.args.bank x))

pub invariant_of-result : goal.invariant_of-result
invariant_of-result c = (c.requires, all_small-none, c.new.ensures.place)
