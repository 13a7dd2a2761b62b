use Rattle.slicer_bank.proofs.Common.{◌≡◌, ◌-◌, ◌^◌, List, [], ◌++◌, ap, ◌∙◌, IfOk-weaker, in_order, Candidate, least}
use Rattle.slicer_bank.proofs.Common.{merged}
use Rattle.frame_merge.specs.Held.{StandsFor}
use Rattle.slicer_bank.proofs.MergingLemmas.{in_order-strictly}
use Rattle.slicer_bank.proofs.merging.merge.Goals as goal

pub returns : goal.returns
returns c =
    let put = c.finish.ensures.stands_for c.args.candidates.items []
    (c.in_ok-put_all.ensures.stands_for [] [] c.in_ok-merger.ensures.stands_for) in
    IfOk-weaker c.take_ready.result
    (λ ready. least c.finish.new.self.marks ≡ 2 ^ 64 - 1 → (puts given : List Candidate)
    → StandsFor c.finish.new.self puts given → given ++ ready.items ≡ merged (in_order puts))
    (λ items. items.items ≡ merged c.args.candidates.items)
    (λ items last. last c.finish.ensures.least c.args.candidates.items [] put
    ∙ ap merged (in_order-strictly c.args.candidates.items c.requires.order))
    c.take_ready.ensures.last
