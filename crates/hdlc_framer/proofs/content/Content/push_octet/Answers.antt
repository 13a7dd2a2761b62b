use Rattle.hdlc_framer.proofs.Common.{◌≡◌, ◌+◌, ◌*◌, ◌/◌, ◌%◌, ◌<◌, ◌++◌, length, ap, subst, sym, ◌∙◌, arith}
use Rattle.hdlc_framer.proofs.Common.{All, append_assoc, length_push, low_bits, octet_bits, sent_bits}
use Rattle.std.proofs.lemmas.List.Elements.{All-push}
use Rattle.hdlc_framer.proofs.BitLemmas.{length-packed, sent_bits-push}
use Rattle.hdlc_framer.proofs.OctetLemmas.{part_and_octet}
use Rattle.hdlc_framer.proofs.content.Content.push_octet.Goals as goal

pub push-requires : goal.push-requires
push-requires c =
    let s = c.self.inside in
    let size : length c.args.self.now ≡ 8 * length s.octets.items + s.filled = sym (ap length c.self.view_is)
    ∙ length-packed s.octets.items s.filled s.part in
    let room : length s.octets.items < 1026 = omega arith in
    (omega arith, room)

pub invariant_of-self : goal.invariant_of-self
invariant_of-self c =
    let s = c.self.inside in
    let bits = c.joined-bits.result in
    let size : length c.args.self.now ≡ 8 * length s.octets.items + s.filled = sym (ap length c.self.view_is)
    ∙ length-packed s.octets.items s.filled s.part in
    let one_more : length c.push.new.self.items ≡ length s.octets.items + 1 = ap length c.push.ensures.items
    ∙ length_push s.octets.items (bits % 256) in
    let below = c.joined-bits.ensures.below in
    record {
      octets_fit = subst (All (λ octet. octet < 256)) (sym c.push.ensures.items)
          (All-push (λ octet. octet < 256) s.octets.items (bits % 256) c.self.invariant.octets_fit (omega arith));
      room = omega arith;
      below_octet = c.self.invariant.below_octet;
      part_fits = omega arith;
    }

pub returns : goal.returns
returns c =
    let s = c.self.inside in
    let bits = c.joined-bits.result in
    let items = s.octets.items in
    ap (λ xs. sent_bits xs ++ low_bits s.filled (bits / 256)) c.push.ensures.items
    ∙ ap (λ xs. xs ++ low_bits s.filled (bits / 256)) (sent_bits-push items (bits % 256))
    ∙ append_assoc (sent_bits items) (octet_bits (bits % 256)) (low_bits s.filled (bits / 256))
    ∙ ap (λ xs. sent_bits items ++ xs)
    (sym (part_and_octet s.filled s.part c.args.octet bits c.self.invariant.part_fits c.joined-bits.ensures.bits))
    ∙ sym (append_assoc (sent_bits items) (low_bits s.filled s.part) (octet_bits c.args.octet))
    ∙ ap (λ xs. xs ++ octet_bits c.args.octet) c.self.view_is
