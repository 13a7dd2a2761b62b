use Rattle.tnc_record.proofs.Common.{refl, ap, sym, ◌∙◌, ◌&&◌, ring_len}
use Rattle.tnc_record.proofs.TurnLemmas.{on_err, turned, cut_in_recording, cut_in_hearing}
use Rattle.tnc_record.proofs.listening.Listening.turn.Goals as goal

pub returns-in_err-hear-clause-cut : goal.returns-in_err-hear-clause-cut
returns-in_err-hear-clause-cut g c = λ words recording stands.
    on_err c.from_residual.result (cut_in_hearing words c.args.self.now c.hear.new.self (ring_len c.args.ring.now)
    recording _ _ (c.in_err-hear.ensures.cut words recording stands))

pub returns-in_err-recorded-clause-cut : goal.returns-in_err-recorded-clause-cut
returns-in_err-recorded-clause-cut g c = λ words recording stands.
    on_err c.from_residual-in_err-recorded.result (cut_in_recording words c.args.self.now c.hear.new.self _
    (ring_len c.args.ring.now) recording _ _ (c.in_ok-hear.ensures.heard words recording stands)
    (record {
      reads = c.in_err-recorded.ensures.grown.0;
      are = c.in_err-recorded.ensures.grown.1;
      keep = c.in_err-recorded.ensures.keep;
      stands = c.in_err-recorded.ensures.stands;
    }) refl refl)

pub returns-then-self-clause-turned : goal.returns-then-self-clause-turned
returns-then-self-clause-turned g c = λ words recording stands.
    turned words c.in_ok-recorded.recorded.ended c.args.self.now c.hear.new.self _ (ring_len c.args.ring.now) recording
    _ _ (c.in_ok-hear.ensures.heard words recording stands)
    (record {
      reads = c.in_ok-recorded.ensures.grown.0;
      are = c.in_ok-recorded.ensures.grown.1;
      keep = c.in_ok-recorded.ensures.keep;
      stands = c.in_ok-recorded.ensures.stands;
    }) c.in_ok-recorded.ensures.grown.2 refl refl refl
    (c.in_ok-recorded.ensures.ended ∙ ap (λ over. over && c.advance.new.self.ended) (sym c.if-self.true))

pub returns-else-self-clause-turned : goal.returns-else-self-clause-turned
returns-else-self-clause-turned g c = λ words recording stands.
    turned words c.hear.new.self.over c.args.self.now c.hear.new.self _ (ring_len c.args.ring.now) recording
    _ _ (c.in_ok-hear.ensures.heard words recording stands)
    (record {
      reads = c.in_ok-recorded.ensures.grown.0;
      are = c.in_ok-recorded.ensures.grown.1;
      keep = c.in_ok-recorded.ensures.keep;
      stands = c.in_ok-recorded.ensures.stands;
    }) c.in_ok-recorded.ensures.grown.2 refl refl refl
    (c.if-self.false ∙ ap (λ over. over && c.advance.new.self.ended) (sym c.if-self.false))
