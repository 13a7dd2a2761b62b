use Rattle.sample_ring.proofs.Common.{◌≡◌, ◌+◌, sym, ap, length, arith}
use Rattle.sample_ring.proofs.Stepping.{finish}
use Rattle.sample_ring.proofs.writer.Writer.end.Goals as goal

pub store-requires : goal.store-requires
store-requires c =
    let self = c.args.self in
    let ring = c.args.ring.now in
    let wide = ring.words in
    let total : self.count + 1 ≡ length self.seat.me.0.published + 1 = ap (λ n. n + 1) (sym self.counts) in (
      c.requires,
      omega arith,
      finish ring.table.shared.key ring.table.shared.table_id.slots self.seat.id self.seat.me
          ring.len (self.count + 1) self.writes self.active (sym ring.key) total,
    )
