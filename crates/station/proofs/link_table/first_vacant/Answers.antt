use Rattle.station.proofs.Common.{◌<◌, arith}
use Rattle.station.proofs.TableLemmas.{all_counted}
use Rattle.station.proofs.link_table.first_vacant.Goals as goal

pub returns-clause-vacant : goal.returns-clause-vacant
returns-clause-vacant c = λ few.
    let places = c.args.places.now in
    let all = all_counted places (λ k within. let below : k < c.loop-key.key = omega (arith, within, c.requires) in
    c.loop-key.invariant k below) in
    absurd (omega (arith, all, few, c.requires))
