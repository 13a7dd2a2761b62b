use Rattle.station.proofs.Common.{OnOk, sym, subst, Turn, Shows}
use Rattle.station.proofs.TakenLemmas.{ending_shut}
use Rattle.station.proofs.parts.Parts.end.Goals as goal

pub returns-clause-shows : goal.returns-clause-shows
returns-clause-shows c = λ turn shows.
    subst (λ (following : Turn). OnOk c.shut.result (Shows c.shut.new.self c.shut.new.out following))
    (sym (ending_shut c.args.id c.args.ends turn c.if-not-ends.false)) (c.shut.ensures.shows turn shows)
