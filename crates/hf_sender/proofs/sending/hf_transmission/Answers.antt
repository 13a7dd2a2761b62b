use Rattle.hf_sender.proofs.Common.{◌∙◌, ap, line, at_level, wave, hf_transmission}
use Rattle.hf_sender.proofs.sending.hf_transmission.Goals as goal

pub returns-clause-sent : goal.returns-clause-sent
unfolding hf_transmission
returns-clause-sent c =
    c.in_ok-modulated.ensures ∙ ap (λ bits. at_level c.args.level (wave (line bits))) (c.deref.ensures.value
    ∙ c.in_ok-bits.ensures)
