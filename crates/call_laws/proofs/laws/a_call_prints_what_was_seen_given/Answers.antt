use Rattle.call_laws.proofs.CallSeen.{call_seen_by}
use Rattle.call_laws.proofs.laws.a_call_prints_what_was_seen_given.Goals as goal

pub returns : goal.returns
returns c = call_seen_by c.a_call_prints_what_was_given.ensures c.set_ups_law.ensures
