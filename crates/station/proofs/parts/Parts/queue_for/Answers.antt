use Rattle.station.proofs.Common.{◌≡◌, ◌∙◌, true, false, cond-true, cond-false, sym, subst, OnOk, Shows, Turn}
use Rattle.station.specs.Turn.{dropping, entering_for, may_enter}
use Rattle.station.proofs.parts.Parts.queue_for.Goals as goal

pub returns-then-not-may_enter-clause-shows : goal.returns-then-not-may_enter-clause-shows
returns-then-not-may_enter-clause-shows c = λ turn shows.
    let owner = c.args.owner in
    let enters = entering_for owner c.args.asker c.args.link c.args.octets turn in
    let none : may_enter owner turn.now ≡ false =
    sym (c.may_enter.ensures.may turn.now shows.holds) ∙ c.if-not-may_enter.true in
    subst (λ (following : Turn). Shows c.drop_frame.new.self c.args.out.now following)
    (sym (cond-false (may_enter owner turn.now) enters (dropping turn) none))
    (c.drop_frame.ensures.shows c.args.out.now turn shows)

pub returns-clause-shows : goal.returns-clause-shows
returns-clause-shows c = λ turn shows.
    let owner = c.args.owner in
    let enters = entering_for owner c.args.asker c.args.link c.args.octets turn in
    let some : may_enter owner turn.now ≡ true =
    sym (c.may_enter.ensures.may turn.now shows.holds) ∙ c.if-not-may_enter.false in
    subst (λ (following : Turn). OnOk c.enter_for.result (Shows c.enter_for.new.self c.enter_for.new.out following))
    (sym (cond-true (may_enter owner turn.now) enters (dropping turn) some))
    (c.enter_for.ensures.shows turn shows)
