use Rattle.keying.proofs.Common.{ap, sym, ◌∙◌, after_reading, ending_in}
use Rattle.keying.proofs.History.{kept_read, stands_ended}
use Rattle.keying.proofs.machine.Keying.release.Goals as goal

pub returns-clause-told : goal.returns-clause-told
returns-clause-told c = λ words past stands.
    c.ending_step-ending.ensures
    ∙ ap (λ k. ending_in k.phase k) (c.read.ensures
    ∙ ap (λ k. after_reading c.args.now c.args.octets.now c.args.end k) stands.is
    ∙ sym (kept_read words c.args.now c.args.octets.now c.args.end past))

pub returns-clause-stands_for : goal.returns-clause-stands_for
returns-clause-stands_for c = λ words past stands.
    stands_ended words c.args.now c.args.octets.now c.args.end past c.args.self.now c.read.new.self
    c.close.new.self stands c.read.ensures c.close.ensures
