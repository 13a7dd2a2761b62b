use Rattle.hf_modem.proofs.MergedLemmas.{adds}
use Rattle.hf_modem.proofs.decoder.HfBankLanes.hear.Goals as goal

pub returns-clause-heard : goal.returns-clause-heard
returns-clause-heard c = λ x h.
    let both = c.in_ok-found.ensures.heard x h in (
      both.0,
      adds x c.args.block.now c.in_ok-found.found.items both.1,
    )
