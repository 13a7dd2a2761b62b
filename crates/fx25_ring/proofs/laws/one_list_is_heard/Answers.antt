use Rattle.fx25_ring.proofs.HeardLemmas.{due_at_once, one_due, one_in_answers, some_in_answers}
use Rattle.fx25_ring.proofs.laws.one_list_is_heard.Goals as goal

pub returns-clause-some : goal.returns-clause-some
returns-clause-some c = some_in_answers

pub returns-clause-one : goal.returns-clause-one
returns-clause-one c = one_in_answers

pub returns-clause-due : goal.returns-clause-due
returns-clause-due c = one_due

pub returns-clause-at_once : goal.returns-clause-at_once
returns-clause-at_once c = due_at_once
