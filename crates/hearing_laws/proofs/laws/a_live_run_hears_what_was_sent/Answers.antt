use Rattle.hearing_laws.proofs.TheLaw.{hears_nothing_else, hears_what_was_sent}
use Rattle.hearing_laws.proofs.laws.a_live_run_hears_what_was_sent.Goals as goal

pub returns : goal.returns
returns c = record { whole = hears_what_was_sent; first = hears_nothing_else }
