use Rattle.tnc_words.proofs.Common.{app_of}
use Rattle.tnc_words.proofs.Found.{is_simple-free}
use Rattle.tnc_words.proofs.parsing.found_by.Goals as goal

pub returns-in-Ok-clause-rows : goal.returns-in-Ok-clause-rows
returns-in-Ok-clause-rows c = (c.in-Ok.ensures.matches (is_simple-free (app_of c.args.command) c.requires)).0
