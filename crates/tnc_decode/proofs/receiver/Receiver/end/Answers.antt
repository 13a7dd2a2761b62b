use Rattle.tnc_decode.proofs.Common.{sym, modem_of, rates_of, samples_read}
use Rattle.tnc_decode.proofs.ReceiverLemmas.{heard_all}
use Rattle.tnc_decode.proofs.receiver.Receiver.end.Goals as goal

pub returns : goal.returns
returns c = λ words octets h.
    heard_all c.args.self.now words octets c.in_ok-items.items.items c.deref.result.now c.in_ok-text.text.items
    c.verdict.result h (c.in_ok-items.ensures.rest (modem_of words octets) (samples_read words octets) h.decoder)
    c.deref.ensures.value c.in_ok-text.ensures
    (sym (c.verdict.ensures (rates_of words.receiving) words.audio octets h.audio))
