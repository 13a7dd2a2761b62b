use Rattle.sample_ring.proofs.Common.{arith}
use Rattle.sample_ring.proofs.Stepping.{cut}
use Rattle.sample_ring.proofs.writer.Writer.first_reader.Goals as goal

pub split_seat-seat-requires : goal.split_seat-seat-requires
split_seat-seat-requires c =
    let self = c.args.self.now in
    let ring = c.args.ring.now in
    let wide = ring.words in
    (c.requires.ring, omega arith, cut ring.table.shared.key self.seat.id self.seat.me.0 self.lives self.writes)
