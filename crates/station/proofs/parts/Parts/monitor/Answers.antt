use Rattle.station.proofs.Common.{Option, Some, None, subst, on_ok_weaker, Frame, IsReadAs}
use Rattle.station.proofs.MonitorLemmas.{shows_nothing}
use Rattle.station.proofs.parts.Parts.monitor.Goals as goal

pub returns-in-Some-clause-shows : goal.returns-in-Some-clause-shows
returns-in-Some-clause-shows c = λ turn shows.
    let frame = c.in-Some.frame in
    let is : IsReadAs c.args.modulus c.args.octets.now (Some frame) =
    subst (λ (read : Option Frame). IsReadAs c.args.modulus c.args.octets.now read)
    c.in-Some.is c.in_ok-frame.ensures.read in
    on_ok_weaker c.show_frame.result (λ s. (Some frame, is, s)) (c.show_frame.ensures.shows turn shows)

pub returns-in-None-clause-shows : goal.returns-in-None-clause-shows
returns-in-None-clause-shows c = λ turn shows.
    let is : IsReadAs c.args.modulus c.args.octets.now None =
    subst (λ (read : Option Frame). IsReadAs c.args.modulus c.args.octets.now read)
    c.in-None.is c.in_ok-frame.ensures.read in
    (None, is, shows_nothing c.args.self.now c.args.out.now turn shows)
