use Rattle.std.proofs.Common.{◌∙◌, refl}
use Rattle.xid_parameters.proofs.ReadOnce.{told_of_spelled, nothing_told}
use Rattle.xid_parameters.proofs.reading.told_in_xid.Goals as goal

pub returns-in-Some : goal.returns-in-Some
returns-in-Some c =
    let spelled = c.in-Some.ensures.told in
    spelled.2 ∙ told_of_spelled spelled.0 c.args.octets.now spelled.1

pub returns-in-None : goal.returns-in-None
returns-in-None c = c.nothing.ensures ∙ nothing_told c.args.octets.now (c.in-None.ensures.none refl)
