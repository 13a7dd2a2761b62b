use Rattle.tnc_loop.proofs.SummaryLemmas.{one_summary, one_stray}
use Rattle.tnc_loop.proofs.laws.one_summary.Goals as goal

pub returns-clause-summary : goal.returns-clause-summary
returns-clause-summary c = one_summary

pub returns-clause-stray : goal.returns-clause-stray
returns-clause-stray c = one_stray
