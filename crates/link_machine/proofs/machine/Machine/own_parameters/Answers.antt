use Rattle.link_machine.proofs.Common.{◌∙◌, ap}
use Rattle.link_machine.specs.Machine.{modulus_named}
use Rattle.link_machine.specs.Negotiation.{parameters_by}
use Rattle.link_machine.proofs.machine.Machine.own_parameters.Goals as goal

pub returns-clause-own : goal.returns-clause-own
returns-clause-own c = λ m h.
    let held = c.args.self.now in
    c.parameters.ensures.own ∙ ap (λ k. parameters_by k held.params held.control) c.modulus.ensures
    ∙ ap (λ k. parameters_by (modulus_named k) held.params held.control) h.stands.incoming.modulus
    ∙ ap (λ q. parameters_by (modulus_named m.incoming.modulus) q held.control) h.stands.params
    ∙ ap (parameters_by (modulus_named m.incoming.modulus) m.params) h.stands.control
