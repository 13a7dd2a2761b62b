use Rattle.hdlc_framer.proofs.Common.{sym, ap, ◌∙◌, bit_xor, ◌/◌, arith, and_mask, step_of}
use Rattle.hdlc_framer.proofs.CheckSequenceLemmas.{after_octet-is}
use Rattle.hdlc_framer.proofs.check_sequence.next_check.Goals as goal

pub returns : goal.returns
returns c =
    ap (bit_xor (c.args.check / 256)) (c.step.ensures
    ∙ ap (λ n. step_of (bit_xor n c.args.octet)) (and_mask c.args.check 8))
    ∙ sym (after_octet-is c.args.check c.args.octet (omega arith))
