use Rattle.tnc_loop.proofs.DrawingLemmas.{drawn_good}
use Rattle.tnc_loop.proofs.laws.good_transmissions.Goals as goal

pub returns : goal.returns
returns c = drawn_good
