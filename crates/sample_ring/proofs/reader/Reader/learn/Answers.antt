use Rattle.sample_ring.proofs.Common.{◌≡◌, true, ap, ◌∙◌, arith}
use Rattle.sample_ring.proofs.Stepping.{join_note, settle}
use Rattle.sample_ring.proofs.reader.Reader.learn.Goals as goal

pub join_seat-requires : goal.join_seat-requires
join_seat-requires c =
    let self = c.args.self.now in
    let note = c.args.note in
    let ring = c.args.ring.now in
    let wide = ring.words in (
      c.requires.reader,
      c.requires.note,
      note.bare,
      omega arith,
      join_note ring.table.shared.key self.seat.id note.seat.id self.seat.me.0 note.seat.me.0 self.calm,
    )

pub load-requires : goal.load-requires
load-requires c =
    let ring = c.args.ring.now in
    let wide = ring.words in
    let seat = c.join_seat.new.seat in
    let joined = c.join_seat.ensures in
    let lives : seat.me.0.lives ≡ true = ap (λ m. m.0.lives) joined.2 ∙ c.args.self.now.lives in (
      joined.0 ∙ c.requires.reader,
      omega arith,
      settle ring.table.shared.key ring.table.shared.table_id.slots seat.id seat.me 0 lives,
    )
