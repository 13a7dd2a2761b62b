use Rattle.tnc_record.proofs.GapLemmas.{run_gaps, cut_run_gaps}
use Rattle.tnc_record.proofs.laws.gaps_are_told.Goals as goal

pub returns-clause-whole : goal.returns-clause-whole
returns-clause-whole c = run_gaps

pub returns-clause-cut : goal.returns-clause-cut
returns-clause-cut c = cut_run_gaps
