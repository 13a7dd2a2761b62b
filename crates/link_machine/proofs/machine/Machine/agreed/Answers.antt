use Rattle.link_machine.proofs.Common.{◌∙◌, ap}
use Rattle.xid_parameters.specs.Reading.{told_in_xid}
use Rattle.link_machine.specs.Negotiation.{in_use}
use Rattle.link_machine.proofs.machine.Machine.agreed.Goals as goal

pub returns-clause-own : goal.returns-clause-own
returns-clause-own c = λ m h.
    c.in_use.ensures.own ∙ ap (λ own. in_use own c.told_in_xid.result) (c.own_parameters.ensures.own m h)
    ∙ ap (in_use (Rattle.link_machine.specs.Negotiation.own_parameters m))
    (c.told_in_xid.ensures ∙ ap told_in_xid c.as_slice.ensures.list)
