use Rattle.keying.proofs.Common.{ap, ◌∙◌, key_of, is_wanted}
use Rattle.keying.specs.Told.{act_told}
use Rattle.keying.proofs.History.{kept_wanted, stands_ticked}
use Rattle.keying.proofs.machine.Keying.tick.Goals as goal

pub returns-clause-act : goal.returns-clause-act
returns-clause-act c = λ words past stands.
    c.act-act.ensures.act
    ∙ ap (λ k. act_told c.args.sounds (is_wanted c.args.sounds k) k) stands.is
    ∙ ap (λ w. act_told c.args.sounds w (key_of words past)) (kept_wanted words c.args.sounds past)

pub returns-clause-stands_for : goal.returns-clause-stands_for
returns-clause-stands_for c = λ words past stands.
    stands_ticked words past c.args.sounds c.args.self.now c.act-act.new.self c.mark_tick.new.self stands
    c.act-act.ensures.kept c.mark_tick.ensures
