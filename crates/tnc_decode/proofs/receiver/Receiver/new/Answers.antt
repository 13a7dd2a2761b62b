use Rattle.tnc_decode.proofs.Common.{[], refl, subst, arith, Modem, HasDecoded}
use Rattle.tnc_decode.proofs.ReceiverLemmas.{heard_none}
use Rattle.tnc_decode.proofs.receiver.Receiver.new.Goals as goal

pub returns : goal.returns
returns c =
    heard_none _ c.args.words refl refl c.new-audio.ensures
    (subst (λ (modem : Modem). HasDecoded modem c.in_ok-new.field-0 [])
    (c.modem-modem.ensures c.args.words [] refl c.new-audio.ensures) c.in_ok-new.ensures.stands_for)
    (let p = c.in_ok-new.ensures.position in omega (arith, p)) c.in_ok-new.ensures.unfinished
