use Rattle.station.proofs.Common.{◌≡◌, subst, on_ok_weaker, Modulus, IsReadAs, modulus_between}
use Rattle.station.proofs.parts.Parts.monitor_heard.Goals as goal

pub returns-clause-shows : goal.returns-clause-shows
returns-clause-shows c = λ turn shows.
    let path = c.args.path.now in
    let modulus : c.modulus_between-modulus.result ≡ modulus_between path.dest path.source turn.now.links =
    c.modulus_between-modulus.ensures turn.now.links shows.holds.links in
    on_ok_weaker c.monitor.result
    (λ p. (p.0, subst (λ (m : Modulus). IsReadAs m c.args.octets.now p.0) modulus p.1, p.2))
    (c.monitor.ensures.shows turn shows)
