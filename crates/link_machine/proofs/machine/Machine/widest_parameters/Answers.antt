use Rattle.link_machine.proofs.Common.{◌∙◌, ap}
use Rattle.ax25_frames.specs.declared.frame.Modulus.TheVariants.{OneTwentyEight}
use Rattle.link_machine.specs.Negotiation.{parameters_by}
use Rattle.link_machine.proofs.machine.Machine.widest_parameters.Goals as goal

pub returns-clause-own : goal.returns-clause-own
returns-clause-own c = λ m h.
    let held = c.args.self.now in
    c.parameters.ensures.own ∙ ap (λ q. parameters_by OneTwentyEight q held.control) h.stands.params
    ∙ ap (parameters_by OneTwentyEight m.params) h.stands.control
