use Rattle.hdlc_framer.proofs.Common.{◌+◌, [], ◌∷◌, ◌++◌, Bool, List, ap, arith, subst}
use Rattle.hdlc_framer.proofs.LateLemmas.{late_more}
use Rattle.hdlc_framer.specs.Late.{HeldLate, StandsFor}
use Rattle.hdlc_framer.proofs.late_deframer.LateDeframer.put_off.Goals as goal

pub returns-clause-stands_for : goal.returns-clause-stands_for
returns-clause-stands_for c =
    let P : HeldLate → Type 0 = λ old. (b : List Bool) → StandsFor old.deframer old.last old.waiting b
    → StandsFor c.self.inside.deframer c.later-self-inside.result (c.self.inside.waiting + 1) (b ++ c.args.bit ∷ []) in
    subst P c.self.view_is (λ b s.
    late_more c.self.inside.deframer c.self.inside.last c.later-self-inside.result c.self.inside.waiting b c.args.bit
    (omega (arith, c.requires, ap (λ (h : HeldLate). h.waiting) c.self.view_is)) c.later-self-inside.ensures s)
