use Rattle.station.proofs.Common.{sym, subst, Held, StandsFor}
use Rattle.station.proofs.station.Station.modulus.Goals as goal

pub returns : goal.returns
returns c = record {
  between = λ s h. c.modulus_between.ensures s.links
      ((subst (λ (held : Held). StandsFor held s) (sym c.self.view_is) h).parts.links);
}
