use Rattle.hdlc_framer.proofs.Common.{[], ◌∷◌, ◌++◌, ◌∙◌, ap, arith}
unfoldable use Rattle.hdlc_framer.proofs.Common.{octet_bits}
use Rattle.hdlc_framer.proofs.LateLemmas.{flag_last}
use Rattle.hdlc_framer.specs.Late.{HeldLate}
use Rattle.hdlc_framer.proofs.late_deframer.LateDeframer.push.Goals as goal

pub returns-then-self-ne-FLAG-clause-frame : goal.returns-then-self-ne-FLAG-clause-frame
returns-then-self-ne-FLAG-clause-frame c = λ b octets s ends.
    let after = c.put_off.ensures.stands_for b (c.make_room.ensures.stands_for b s) in
    let last = ap (λ (h : HeldLate). octet_bits h.last) c.self.view_is ∙ after.last_is in
    absurd (c.if-self-ne-FLAG.true (flag_last (b ++ c.args.bit ∷ []) octets c.self.inside.last (omega arith) last ends))

pub returns-clause-heard : goal.returns-clause-heard
returns-clause-heard c = λ b s e.
    c.catch_up.ensures.heard (b ++ c.args.bit ∷ []) (c.put_off.ensures.stands_for b (c.make_room.ensures.stands_for b s)) e

pub returns-clause-frame : goal.returns-clause-frame
returns-clause-frame c = λ b octets s ends.
    c.catch_up.ensures.frame (b ++ c.args.bit ∷ []) octets
    (c.put_off.ensures.stands_for b (c.make_room.ensures.stands_for b s)) ends
