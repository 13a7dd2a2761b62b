use Rattle.link_world.proofs.Common.{sym, subst, near_cause, Event, IsAnswered}
use Rattle.link_world.proofs.happening.happen_near.Goals as goal

pub returns-in-Connect-clause-answered : goal.returns-in-Connect-clause-answered
returns-in-Connect-clause-answered c = λ w both.
    subst (λ (event : Event). IsAnswered (near_cause c.args.number event w) c.take.result) (sym c.in-Connect.is)
    (c.take.ensures.answered w c.in-Connect.field-0 both)

pub returns-in-Send-clause-answered : goal.returns-in-Send-clause-answered
returns-in-Send-clause-answered c = λ w both.
    subst (λ (event : Event). IsAnswered (near_cause c.args.number event w) c.take-in-Send.result) (sym c.in-Send.is)
    (c.take-in-Send.ensures.answered w c.in-Send.field-0 both)

pub returns-in-Disconnect-clause-answered : goal.returns-in-Disconnect-clause-answered
returns-in-Disconnect-clause-answered c = λ w both.
    subst (λ (event : Event). IsAnswered (near_cause c.args.number event w) c.take-in-Disconnect.result) (sym c.in-Disconnect.is)
    (c.take-in-Disconnect.ensures.answered w c.in-Disconnect.field-0 both)

pub returns-in-Tick-clause-answered : goal.returns-in-Tick-clause-answered
returns-in-Tick-clause-answered c = λ w both.
    subst (λ (event : Event). IsAnswered (near_cause c.args.number event w) c.take-in-Tick.result) (sym c.in-Tick.is)
    (c.take-in-Tick.ensures.answered w c.in-Tick.field-0 both)

pub returns-in-Seize-clause-answered : goal.returns-in-Seize-clause-answered
returns-in-Seize-clause-answered c = λ w both.
    subst (λ (event : Event). IsAnswered (near_cause c.args.number event w) c.take-in-Seize.result) (sym c.in-Seize.is)
    (c.take-in-Seize.ensures.answered w c.in-Seize.field-0 both)

pub returns-in-Hear-clause-answered : goal.returns-in-Hear-clause-answered
returns-in-Hear-clause-answered c = λ w both.
    subst (λ (event : Event). IsAnswered (near_cause c.args.number event w) c.hear.result) (sym c.in-Hear.is)
    (c.hear.ensures.answered w c.in-Hear.field-0 both)

pub returns-in-Lose-clause-answered : goal.returns-in-Lose-clause-answered
returns-in-Lose-clause-answered c = λ w both.
    subst (λ (event : Event). IsAnswered (near_cause c.args.number event w) c.lose.result) (sym c.in-Lose.is)
    (c.lose.ensures.answered w c.in-Lose.field-0 both)
