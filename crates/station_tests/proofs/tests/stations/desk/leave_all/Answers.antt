-- One connection after another.
use Rattle.std.proofs.Common.{◌+◌, drop, sym, ap, ◌∙◌}
use Rattle.std.proofs.lemmas.List.{drop_more}
use Rattle.station.specs.Held.{without_ids}
use Rattle.station_tests.proofs.tests.stations.desk.leave_all.Goals as goal

pub loop-id-preserved : goal.loop-id-preserved
loop-id-preserved c =
    let closed = c.args.closed.now in
    let i = c.loop-id.id-index in
    ap (without_ids (drop (i + 1) closed)) c.leave.ensures
    ∙ sym (ap (λ xs. without_ids xs c.loop-id.there.items) (drop_more closed i 0 c.loop-id-test.true))
    ∙ c.loop-id.invariant
