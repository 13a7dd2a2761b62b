use Rattle.sample_ring.proofs.Common.{◌≡◌, ◌%◌, ◌<◌, sym, ap, ◌∙◌, arith, mod-lt}
use Rattle.sample_ring.proofs.Stepping.{look, look_last, looked_waits}
use Rattle.sample_ring.proofs.reader.Reader.read.Goals as goal

pub load-cell-requires : goal.load-cell-requires
load-cell-requires c =
    let self = c.args.self.now in
    let ring = c.args.ring.now in
    let wide = ring.words in
    let below : self.at % ring.len < ring.len = mod-lt self.at ring.positive in
    let place : self.at % ring.len ≡ self.seat.me.0.track.at % ring.table.shared.key =
    ap (λ at. at % ring.len) (sym self.stands) ∙ ap (λ len. self.seat.me.0.track.at % len) (sym ring.key) in (
      c.requires,
      omega arith,
      look ring.table.shared.key ring.table.shared.table_id.slots self.seat.id self.seat.me
          (self.at % ring.len) self.lives self.calm place,
    )

pub load-last-requires : goal.load-last-requires
load-last-requires c =
    let self = c.args.self.now in
    let ring = c.args.ring.now in
    let wide = ring.words in
    let seat = c.load-cell.new.seat in
    let at = self.stands in
    let lap = c.lap_in-lap.ensures in
    let low = c.if-lap-at.true in
    let looked = c.load-cell.ensures.2.0 ∙ ap (λ view. (view, self.seat.me.1))
    (looked_waits self.seat.me.0 c.load-cell.result (omega arith)) in (
      c.load-cell.ensures.0 ∙ c.requires,
      omega arith,
      look_last ring.table.shared.key ring.table.shared.table_id.slots seat.id seat.me ring.len
          (ap (λ me. me.0.lives) looked ∙ self.lives) (ap (λ me. me.0.waits) looked) (sym ring.key),
    )
