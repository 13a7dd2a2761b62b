use Rattle.tnc_loop.proofs.DrawingLemmas.{received_good}
use Rattle.tnc_loop.proofs.HeardLemmas.{drawn_near}
use Rattle.tnc_loop.proofs.laws.heard_is_near.Goals as goal

pub returns-clause-received : goal.returns-clause-received
returns-clause-received c = received_good

pub returns-clause-near : goal.returns-clause-near
returns-clause-near c = drawn_near
