use Rattle.hdlc_framer.proofs.Common.{◌≡◌, ◌/◌, ◌%◌, ◌∷◌, [], ap, ◌∙◌, arith, sent_bits}
use Rattle.hdlc_framer.proofs.StuffingLemmas.{left_after-le}
use Rattle.hdlc_framer.proofs.StuffLemmas.{frame_sent}
use Rattle.hdlc_framer.proofs.stuffing.push_frame.Goals as goal

pub push_octets-requires-2 : goal.push_octets-requires-2
push_octets-requires-2 c = omega (
  arith,
  left_after-le (sent_bits c.args.octets.now) 4 (omega arith),
  c.in_ok-left.ensures.left,
)

pub returns : goal.returns
returns c =
    let high : c.fcs.result / 256 % 256 ≡ c.fcs.result / 256 = omega (arith, c.fcs.type_inv) in
    frame_sent c.args.bits.now.items c.args.octets.now c.as_slice.result.now c.push_octets.new.bits.items
    c.push_octets-2.new.bits.items c.in_ok-left.left
    (c.as_slice.ensures ∙ c.to_le_bytes.ensures ∙ ap (λ n. (c.fcs.result % 256) ∷ n ∷ []) high
    ∙ ap (λ n. (n % 256) ∷ (n / 256) ∷ []) c.fcs.ensures)
    c.in_ok-left.ensures.bits c.in_ok-left.ensures.left c.in_ok-push_octets.ensures.bits
