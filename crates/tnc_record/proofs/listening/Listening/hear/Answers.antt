use Rattle.tnc_record.proofs.Common.{refl, ◌∙◌, ring_len}
use Rattle.tnc_record.proofs.TurnLemmas.{on_err, hears_on, stops_hearing}
use Rattle.tnc_record.proofs.listening.Listening.hear.Goals as goal

pub returns-in_err-heard-clause-cut : goal.returns-in_err-heard-clause-cut
returns-in_err-heard-clause-cut g c = λ words recording stands.
    on_err c.from_residual.result (stops_hearing words c.args.self.now _ (ring_len c.args.ring.now) recording _ stands
    c.in_err-heard.ensures.grown refl refl)

pub returns-in_err-text-clause-cut : goal.returns-in_err-text-clause-cut
returns-in_err-text-clause-cut g c = λ words recording stands.
    on_err c.from_residual-in_err-text.result (stops_hearing words c.args.self.now _ (ring_len c.args.ring.now)
    recording _ stands c.in_ok-heard.ensures.grown refl refl)

pub returns-clause-heard : goal.returns-clause-heard
returns-clause-heard g c = λ words recording stands.
    hears_on words c.args.self.now _ (ring_len c.args.ring.now) recording c.in_ok-heard.heard.ended
    c.in_ok-heard.heard.gaps.items c.in_ok-heard.heard.items.items c.deref.result.now _ _ stands c.if-self.false
    c.in_ok-heard.ensures.turn c.in_ok-heard.ensures.due c.in_ok-heard.ensures.hears c.in_ok-heard.ensures.sensitive
    refl refl (c.deref.ensures.value ∙ c.in_ok-text.ensures) c.put.ensures
