-- The table is that of the powers.
use Rattle.reed_solomon.proofs.Common.{double}
use Rattle.reed_solomon.proofs.FieldLemmas.{get_or-doubles}
use Rattle.reed_solomon.proofs.field.power.Goals as goal

pub returns : goal.returns
unfolding double
returns c = get_or-doubles 510 c.args.i 1 c.requires
