use Rattle.link_machine.proofs.Common.{◌∙◌, ap, acknowledgement, is_valid}
use Rattle.std.specs.Result.{is_ok}
use Rattle.link_machine.proofs.Events.{as_machine, ok_if}
use Rattle.link_machine.proofs.machine.Machine.is_valid.Goals as goal

pub returns : goal.returns
returns c = λ m h.
    c.is_ok.ensures.value
    ∙ ap is_ok (c.acknowledgement.ensures.count
    ∙ ap (λ k. acknowledgement k c.args.nr c.args.self.now.outgoing) c.modulus.ensures.value
    ∙ as_machine c.args.self.now m c.args.nr h)
    ∙ ok_if (is_valid c.args.nr m) _ _
