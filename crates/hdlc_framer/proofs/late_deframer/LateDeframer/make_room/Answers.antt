use Rattle.hdlc_framer.proofs.Common.{Bool, List, subst}
use Rattle.hdlc_framer.proofs.LateLemmas.{late_eight}
use Rattle.hdlc_framer.specs.Late.{HeldLate, StandsFor}
use Rattle.hdlc_framer.proofs.late_deframer.LateDeframer.make_room.Goals as goal

pub returns-then-self-eq-MOST_WAITING-clause-stands_for : goal.returns-then-self-eq-MOST_WAITING-clause-stands_for
returns-then-self-eq-MOST_WAITING-clause-stands_for c =
    let P : HeldLate → Type 0 = λ old. (b : List Bool) → StandsFor old.deframer old.last old.waiting b
    → StandsFor c.push_whole_octet.new.deframer c.self.inside.last 0 b in
    subst P c.self.view_is (λ b s.
    late_eight c.self.inside.deframer c.push_whole_octet.new.deframer c.self.inside.last c.self.inside.waiting b
    c.if-self-eq-MOST_WAITING.true c.push_whole_octet.ensures s)
