use Rattle.hdlc_framer.proofs.Common.{length, ap, sym, ◌∙◌, arith}
use Rattle.hdlc_framer.proofs.BitLemmas.{length-packed}
use Rattle.hdlc_framer.proofs.PackedLemmas.{room_in_part, room_in_octets}
use Rattle.hdlc_framer.proofs.content.Content.has_room.Goals as goal

pub returns-then-self-lt7 : goal.returns-then-self-lt7
returns-then-self-lt7 c =
    let s = c.self.inside in
    room_in_part (length s.octets.items) s.filled (length c.args.self.now) c.self.invariant.room c.if-self-lt7.true
    (sym (ap length c.self.view_is) ∙ length-packed s.octets.items s.filled s.part)

pub returns-else-self-lt7 : goal.returns-else-self-lt7
returns-else-self-lt7 c =
    let s = c.self.inside in
    room_in_octets (length s.octets.items) s.filled (length c.args.self.now) c.is_full.result c.self.invariant.room
    (omega (arith, c.self.invariant.below_octet))
    (sym (ap length c.self.view_is) ∙ length-packed s.octets.items s.filled s.part) c.is_full.ensures.value
