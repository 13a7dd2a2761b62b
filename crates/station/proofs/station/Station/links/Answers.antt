use Rattle.station.proofs.Common.{sym, subst, ◌∙◌, Held, StandsFor}
use Rattle.station.proofs.HearLemmas.{links_counted}
use Rattle.station.proofs.station.Station.links.Goals as goal

pub returns : goal.returns
returns c = record {
  stands_for = λ s h.
      let parts = (subst (λ (held : Held). StandsFor held s) (sym c.self.view_is) h).parts in
      c.len.ensures.count ∙ links_counted c.self.inside.parts.links s.links parts.links;
}
