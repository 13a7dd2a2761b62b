use Rattle.wide_signal.proofs.NearWide.{inside_good, near_inside}
use Rattle.wide_signal.proofs.laws.near_wide_stream.Goals as goal

pub returns-clause-received : goal.returns-clause-received
returns-clause-received c = inside_good

pub returns-clause-near : goal.returns-clause-near
returns-clause-near c = near_inside
