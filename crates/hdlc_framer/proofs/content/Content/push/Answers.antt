use Rattle.hdlc_framer.proofs.Common.{◌≡◌, ◌+◌, ◌*◌, ◌<◌, [], ◌++◌, length, ap, subst, sym, ◌∙◌, arith, All}
use Rattle.hdlc_framer.proofs.Common.{length_push, sent_bits}
use Rattle.std.proofs.lemmas.List.Elements.{All-push}
use Rattle.hdlc_framer.proofs.BitLemmas.{length-packed}
use Rattle.hdlc_framer.proofs.PackedLemmas.{packed_push}
use Rattle.hdlc_framer.proofs.content.Content.push.Goals as goal

pub push-requires : goal.push-requires
push-requires c =
    let s = c.self.inside in
    let size : length c.args.self.now ≡ 8 * length s.octets.items + s.filled = sym (ap length c.self.view_is)
    ∙ length-packed s.octets.items s.filled s.part in
    let room : length s.octets.items < 1026 = omega arith in
    (omega arith, room)

pub invariant_of-self-else-self-lt7 : goal.invariant_of-self-else-self-lt7
invariant_of-self-else-self-lt7 c =
    let s = c.self.inside in
    let size : length c.args.self.now ≡ 8 * length s.octets.items + s.filled = sym (ap length c.self.view_is)
    ∙ length-packed s.octets.items s.filled s.part in
    let one_more : length c.push.new.self.items ≡ length s.octets.items + 1 = ap length c.push.ensures.items
    ∙ length_push s.octets.items c.with_bit-part.result in
    record {
      octets_fit = subst (All (λ octet. octet < 256)) (sym c.push.ensures.items)
          (All-push (λ octet. octet < 256) s.octets.items c.with_bit-part.result c.self.invariant.octets_fit
          c.with_bit-part.type_inv);
      room = omega arith;
      below_octet = omega arith;
      part_fits = omega arith;
    }

pub returns-else-self-lt7 : goal.returns-else-self-lt7
returns-else-self-lt7 c =
    let s = c.self.inside in
    ap (λ xs. sent_bits xs ++ []) c.push.ensures.items
    ∙ packed_push s.octets.items s.filled s.part c.with_bit-part.result c.args.bit c.args.self.now
    (omega (arith, c.self.invariant.below_octet)) c.with_bit-part.ensures.bits c.self.view_is
