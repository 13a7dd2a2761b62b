use Rattle.std.proofs.Common.{ap, sym, ◌∙◌}
use Rattle.std.specs.Prelude.{◌==◌, filter, not}
use Rattle.station_tests.proofs.tests.stations.desk.Desk.leave.Goals as goal

pub invariant_of-self-2 : goal.invariant_of-self-2
invariant_of-self-2 c = λ _.
    c.in_ok-out.ensures.ids ∙ ap (filter (λ other. not (other == c.args.id))) (c.self.invariant c.if-self.false)
    ∙ sym c.leave.ensures
