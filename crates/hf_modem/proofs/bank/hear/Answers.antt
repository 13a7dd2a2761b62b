use Rattle.hf_modem.proofs.Common.{◌∙◌, sym, true≢false}
use Rattle.hf_modem.proofs.bank.hear.Goals as goal

pub returns-then-not-push-clause-heard : goal.returns-then-not-push-clause-heard
returns-then-not-push-clause-heard c = λ tones h octets ends.
    true≢false (sym (c.push.ensures.frame tones octets h ends).0 ∙ c.if-not-push.true)
