use Rattle.call_laws.proofs.Gots.{set_ups_are_told_by}
use Rattle.call_laws.proofs.laws.set_ups_are_told.Goals as goal

pub returns : goal.returns
returns c = set_ups_are_told_by c.ends_follow.ensures
