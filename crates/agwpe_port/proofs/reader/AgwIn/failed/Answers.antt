use Rattle.std.proofs.Common.{◌∙◌, ap, sym, subst}
use Rattle.agwpe_port.specs.Held.{Held, StandsForSome}
use Rattle.agwpe_port.proofs.HeldLemmas.{bad_now}
use Rattle.agwpe_port.proofs.reader.AgwIn.failed.Goals as goal

pub returns : goal.returns
returns c = record {
  stands = subst StandsForSome c.self.view_is c.self.invariant;
  bad = λ stream stands.
      c.bad.ensures ∙ ap (λ (held : Held). held.bad) c.self.view_is ∙ sym (bad_now _ stream stands);
}
