use Rattle.station.proofs.Common.{◌==◌, sym, subst, cond-true, eq-eqb, KissItem, heeding, Shows, Turn, changing}
use Rattle.channel_access.specs.declared.parameters.Param.{Param}
use Rattle.station.specs.Kiss.{param_of, with_param}
use Rattle.station.proofs.parts.Parts.heed.Goals as goal

pub returns-then-port-eq0-clause-shows : goal.returns-then-port-eq0-clause-shows
returns-then-port-eq0-clause-shows c = λ turn shows.
    let new = c.set.new.self in
    let out = c.args.out.now in
    let port = c.in-Set.port in
    let act : Turn = changing (with_param (param_of c.in-Set.command c.in-Set.value)) turn in
    let set : Shows new out act = subst (λ (param : Param). Shows new out (changing (with_param param) turn))
    c.param_of.ensures (c.set.ensures.shows out turn shows) in
    subst (λ (item : KissItem). Shows new out (heeding c.args.id item turn)) (sym c.in-Set.is)
    (subst (λ (following : Turn). Shows new out following)
    (sym (cond-true (port == 0) act turn (eq-eqb port 0 c.if-port-eq0.true))) set)
