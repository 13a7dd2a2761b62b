use Rattle.hdlc_framer.proofs.Common.{◌-◌, sym, ap, ◌∙◌, arith, fold, after_octet}
use Rattle.std.proofs.Common.{take_all}
use Rattle.hdlc_framer.proofs.CheckSequenceLemmas.{fcs_of-register}
use Rattle.hdlc_framer.proofs.check_sequence.fcs.Goals as goal

pub returns : goal.returns
returns c =
    let octets = c.args.octets.now in
    ap (λ n. 65535 - n) (c.loop-octet.invariant ∙ ap (fold after_octet 65535)
    (take_all c.loop-octet.octet-index octets (omega arith)))
    ∙ sym (fcs_of-register octets)
