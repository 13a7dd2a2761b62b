use Rattle.live_receiver.proofs.Common.{HeldHf, HfHears, hf_of, ring_len, subst, sym}
use Rattle.live_receiver.proofs.hf_receiver.HfReceiver.advance.Goals as goal

pub returns-clause-hears : goal.returns-clause-hears
returns-clause-hears c = λ ended.
    let len = ring_len c.args.ring.now in
    let P : HeldHf → Type 0 = λ now. HfHears len now
    → HfHears len (hf_of c.hear.new.reader c.hear.new.lanes c.hear.new.merger c.in_ok-heard.heard.ended) in
    subst P c.self.view_is (λ h.
    subst (λ b. HfHears len (hf_of c.hear.new.reader c.hear.new.lanes c.hear.new.merger b)) (sym ended)
    (c.in_ok-heard.ensures.made.hears ended
    (subst (λ b. HfHears len (hf_of c.self.inside.reader c.self.inside.lanes c.self.inside.merger b)) c.if-self.false h)))
