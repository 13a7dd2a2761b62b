use Rattle.sample_ring.proofs.Common.{◌≡◌, ◌+◌, ◌-◌, ◌^◌, ◌%◌, ◌<◌, sym, ap, ◌∙◌, length, arith, mod-lt, lap_of}
use Rattle.sample_ring.proofs.Stepping.{publish}
use Rattle.sample_ring.proofs.writer.Writer.publish.Goals as goal

pub store-requires : goal.store-requires
store-requires c =
    let self = c.args.self.now in
    let ring = c.args.ring.now in
    let wide = ring.words in
    let size = self.counts in
    let below : self.count % ring.len < ring.len = mod-lt self.count ring.positive in
    let place : self.count % ring.len ≡ length self.seat.me.0.published % ring.table.shared.key =
    ap (λ n. n % ring.len) (sym self.counts) ∙ ap (λ len. length self.seat.me.0.published % len) (sym ring.key) in
    let room : length self.seat.me.0.published + 1 < 2 ^ 48 - 1 = let fits = self.room in let less =
    c.if-self-eq-MOST_SAMPLES.false in omega arith in
    let lap : lap_of c.word_at-word.result ≡ length self.seat.me.0.published + 1 = c.word_at-word.ensures.lap
    ∙ ap (λ n. n + 1) (sym self.counts) in (
      c.requires,
      omega arith,
      publish ring.table.shared.key ring.table.shared.table_id.slots self.seat.id self.seat.me
          (self.count % ring.len) c.word_at-word.result self.writes self.active place room lap,
    )
