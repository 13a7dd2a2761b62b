use Rattle.stretch_reader.proofs.Common.{All, arith, subst}
use Rattle.std.specs.Prelude.{OnOk}
use Rattle.std.proofs.lemmas.Result.{on_ok_weaker}
use Rattle.stretch_reader.proofs.reading.end_stretch.Goals as goal

pub returns-clause-comes : goal.returns-clause-comes
returns-clause-comes g c = λ from under.
    let t = g.L.StretchLanes in
    let at = c.in_ok-hear.ensures.place in
    on_ok_weaker c.finish.result (λ more before. more (c.in_ok-hear.ensures.comes from under before))
    (subst (λ b. OnOk c.finish.result (All (t.comes b from) c.hear.new.items.items
    → All (t.comes b from) c.finish.new.items.items)) c.hear.ensures.sensitive
    (c.finish.ensures.comes from (omega arith)))
