use Rattle.live_laws.proofs.GivenLemmas.{bodies_given_by}
use Rattle.live_laws.proofs.laws.bodies_are_given.Goals as goal

pub returns : goal.returns
returns c = bodies_given_by c.ends_follow.ensures
