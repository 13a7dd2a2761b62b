use Rattle.host_ports.proofs.Common.{refl, sym, subst, StandsFor, AreParts}
use Rattle.host_ports.proofs.SentLemmas.{orderly_step}
use Rattle.host_ports.proofs.host_side.HostSide.tick.Goals as goal

pub returns-clause-step : goal.returns-clause-step
returns-clause-step c = λ hosts printed s.
    let p : AreParts c.self.inside.parts printed hosts =
    (subst (λ v. StandsFor v printed hosts) (sym c.self.view_is) s).parts in
    let m = c.in_ok-air.ensures.moves printed hosts p in
    (m.0, m.1, record { live = refl; parts = m.2; orderly = orderly_step _ hosts m.0 m.1.step s.orderly })
