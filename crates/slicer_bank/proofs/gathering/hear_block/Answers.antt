use Rattle.slicer_bank.proofs.Common.{ℕ, All, IfOk-weaker, LanesKeepFit, CanBePutPast}
use Rattle.slicer_bank.proofs.FeedLemmas.{gathered}
use Rattle.slicer_bank.proofs.gathering.hear_block.Goals as goal

pub returns-clause-found : goal.returns-clause-found
returns-clause-found c =
    gathered (λ found. found.items) c.args.position c.args.lanes.now c.hear_in_turn.new.lanes c.gather.new.lanes
    c.args.recent.now c.keep_last.new.recent c.args.block.now
    c.hear_in_turn.ensures.heard c.keep_last.ensures c.gather.result c.gather.ensures.kept c.gather.ensures.alike
    c.gather.ensures.found

pub returns-clause-bounds : goal.returns-clause-bounds
returns-clause-bounds c =
    IfOk-weaker c.gather.result
    (λ found. (position : ℕ) → LanesKeepFit position c.hear_in_turn.new.lanes
    → All (CanBePutPast position) found.items)
    (λ found. All (CanBePutPast c.args.position) found.items)
    (λ found fits. fits c.args.position c.hear_in_turn.ensures.bounds)
    c.gather.ensures.bounds
