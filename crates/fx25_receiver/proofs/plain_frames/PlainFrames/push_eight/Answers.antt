use Rattle.fx25_receiver.proofs.Common.{◌≡◌, ◌++◌, ◌∙◌, ◌/◌, ap, subst, sym}
use Rattle.std.proofs.Common.{◌^◌}
use Rattle.hdlc_framer.specs.Held.{StandsFor as DeframerStandsFor}
use Rattle.hdlc_framer.specs.Late.{StandsFor}
use Rattle.hdlc_framer.proofs.LateLemmas.{all_bits, late_all}
use Rattle.fx25_receiver.specs.Held.{HeldFrames}
use Rattle.fx25_receiver.proofs.plain_frames.PlainFrames.push_eight.Goals as goal

pub returns-then-push_octet-clause-taken : goal.returns-then-push_octet-clause-taken
returns-then-push_octet-clause-taken c = λ b last s same. (
  ap (λ (h : HeldFrames). h.waiting) c.self.view_is ∙ c.settle.ensures.none,
  c.push_octet.ensures.taken b
      (subst (λ (h : HeldFrames). DeframerStandsFor h.deframer b) (sym c.self.view_is) (c.settle.ensures.all b s))
      c.if-push_octet.true,
)

pub returns-then-push_octet-clause-quiet : goal.returns-then-push_octet-clause-quiet
returns-then-push_octet-clause-quiet c = λ b k octets last s same below.
    c.push_octet.ensures.quiet b k octets
    (subst (λ (h : HeldFrames). DeframerStandsFor h.deframer b) (sym c.self.view_is) (c.settle.ensures.all b s))
    c.if-push_octet.true below

pub returns-then-may_end_frame_in-clause-left : goal.returns-then-may_end_frame_in-clause-left
returns-then-may_end_frame_in-clause-left c = λ b last s same.
    let none : c.self.inside.waiting ≡ 0 = ap (λ (h : HeldFrames). h.waiting) c.self.view_is ∙ c.settle.ensures.none in
    subst (λ w. StandsFor c.push_octet.new.self (c.args.before / 2 ^ 56) w b) (sym none)
    (late_all c.push_octet.new.self (c.args.before / 2 ^ 56) b
    (c.push_octet.ensures.left b
    (subst (λ (h : HeldFrames). DeframerStandsFor h.deframer b) (sym c.self.view_is) (c.settle.ensures.all b s))
    c.if-push_octet.false) s.last_is)

pub returns-clause-taken : goal.returns-clause-taken
returns-clause-taken c = λ b last s same. (
  ap (λ (h : HeldFrames). h.waiting) c.self.view_is ∙ c.settle.ensures.none,
  subst (DeframerStandsFor c.push_bits.new.deframer) (ap (λ xs. b ++ xs) (all_bits c.args.octet))
      (c.push_bits.ensures b (c.push_octet.ensures.left b
      (subst (λ (h : HeldFrames). DeframerStandsFor h.deframer b) (sym c.self.view_is) (c.settle.ensures.all b s))
      c.if-push_octet.false)),
)

pub returns-clause-quiet : goal.returns-clause-quiet
returns-clause-quiet c = λ b k octets last s same below.
    c.may_end_frame_in.ensures c.if-may_end_frame_in.false b k octets last below
