use Rattle.tnc_ports.proofs.KeyServed.{line_untouched}
use Rattle.tnc_ports.proofs.laws.no_key_leaves_the_line.Goals as goal

pub returns : goal.returns
returns c = line_untouched
