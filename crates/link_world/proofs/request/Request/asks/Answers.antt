use Rattle.link_world.proofs.Common.{◌∙◌, ap, sym, seen_of}
use Rattle.link_machine.specs.Asks.{asks}
use Rattle.link_world.proofs.request.Request.asks.Goals as goal

pub returns-in-Seize : goal.returns-in-Seize
returns-in-Seize c = λ m h.
    c.seize_asks.ensures m c.in-Seize.field-0 c.in-Seize.field-1 h ∙ ap (λ r. asks m (seen_of r)) (sym c.in-Seize.is)
