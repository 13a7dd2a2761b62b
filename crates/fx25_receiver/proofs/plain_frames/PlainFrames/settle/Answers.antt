use Rattle.fx25_receiver.proofs.Common.{Bool, List, subst, sym}
unfoldable use Rattle.hdlc_framer.specs.BitOrder.{octet_bits}
use Rattle.hdlc_framer.specs.Held.{StandsFor as DeframerStandsFor}
use Rattle.hdlc_framer.specs.Late.{StandsFor}
use Rattle.hdlc_framer.proofs.LateLemmas.{late_all}
use Rattle.fx25_receiver.specs.Held.{HeldFrames}
use Rattle.fx25_receiver.proofs.plain_frames.PlainFrames.settle.Goals as goal

pub returns-clause-all : goal.returns-clause-all
unfolding octet_bits
returns-clause-all c =
    let P : HeldFrames → Type 0 = λ old. (b : List Bool) → StandsFor old.deframer c.args.last old.waiting b
    → DeframerStandsFor c.push_bits.new.deframer b in
    subst P c.self.view_is (λ b s.
    subst (DeframerStandsFor c.push_bits.new.deframer) (sym s.bits_are) (c.push_bits.ensures s.taken s.deframer_stands))

pub returns-clause-stands_for : goal.returns-clause-stands_for
unfolding octet_bits
returns-clause-stands_for c =
    let P : HeldFrames → Type 0 = λ old. (b : List Bool) → StandsFor old.deframer c.args.last old.waiting b
    → StandsFor c.push_bits.new.deframer c.args.last 0 b in
    subst P c.self.view_is (λ b s.
    late_all c.push_bits.new.deframer c.args.last b
    (subst (DeframerStandsFor c.push_bits.new.deframer) (sym s.bits_are) (c.push_bits.ensures s.taken s.deframer_stands))
    s.last_is)
