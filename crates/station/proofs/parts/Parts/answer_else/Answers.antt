use Rattle.station.proofs.Common.{sym, subst, Shows, Turn}
use Rattle.station.proofs.AnswerLemmas.{else_unregister, else_toggle, else_monitor}
use Rattle.station.proofs.parts.Parts.answer_else.Goals as goal

pub returns-in-120-clause-shows : goal.returns-in-120-clause-shows
returns-in-120-clause-shows c = λ turn shows.
    subst (λ (following : Turn). Shows c.unregister.new.self c.args.out.now following)
    (sym (else_unregister c.args.id c.args.message.now turn c.in-120.is))
    (c.unregister.ensures.shows c.args.out.now turn shows)

pub returns-in-107-clause-shows : goal.returns-in-107-clause-shows
returns-in-107-clause-shows c = λ turn shows.
    subst (λ (following : Turn). Shows c.toggle_raw.new.self c.args.out.now following)
    (sym (else_toggle c.args.id c.args.message.now turn c.in-107.is))
    (c.toggle_raw.ensures.shows c.args.out.now turn shows)

pub returns-in-109-clause-shows : goal.returns-in-109-clause-shows
returns-in-109-clause-shows c = λ turn shows.
    subst (λ (following : Turn). Shows c.toggle_monitor.new.self c.args.out.now following)
    (sym (else_monitor c.args.id c.args.message.now turn c.in-109.is))
    (c.toggle_monitor.ensures.shows c.args.out.now turn shows)
