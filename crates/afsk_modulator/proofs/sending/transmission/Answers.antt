use Rattle.std.proofs.Common.{◌≡◌, ℤ, List, IfOk, subst}
use Rattle.afsk_modulator.proofs.LevelLemmas.{transmission_at-full}
use Rattle.afsk_modulator.proofs.sending.transmission.Goals as goal

pub returns-clause-sent : goal.returns-clause-sent
returns-clause-sent c =
    subst (λ (sent : List ℤ). IfOk c.transmission_at.result (λ samples. samples.items ≡ sent))
    (transmission_at-full c.args.frames.now c.args.opening c.args.closing) c.transmission_at.ensures.sent
