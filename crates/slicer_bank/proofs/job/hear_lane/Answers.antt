use Rattle.slicer_bank.proofs.Common.{◌≡◌, take, arith, subst, sym, ◌∙◌, ap, All, All-nil, take_all, Candidate}
use Rattle.slicer_bank.proofs.Common.{LaneHears, CanBePutPast}
use Rattle.slicer_bank.proofs.OwnLemmas.{own_first, own_block, own_found}
use Rattle.slicer_bank.proofs.job.hear_lane.Goals as goal

pub returns-then-block-le7-clause-heard : goal.returns-then-block-le7-clause-heard
returns-then-block-le7-clause-heard c = λ x size is h.
    let n = c.min.ensures in
    let whole : take c.min.result c.args.block.now ≡ c.args.block.now =
    take_all c.min.result c.args.block.now (omega arith) in
    let first : LaneHears c.args.offset c.args.position c.args.recent.now c.args.block.now c.args.lane.now
    c.hear_own.new.lane c.new-heard.result.items c.hear_own.new.found.items
    = subst (λ t. LaneHears c.args.offset c.args.position c.args.recent.now t c.args.lane.now c.hear_own.new.lane
    c.new-heard.result.items c.hear_own.new.found.items)
    (c.split_at.ensures.front ∙ whole)
    (own_first c.args.offset c.args.position c.args.recent.now _ _ c.args.lane.now c.hear_own.new.lane
    c.new-heard.result.items c.hear_own.new.found.items
    c.told-recent c.bridge-bridge.ensures c.in_ok-hear_own.ensures.found) in
    let heard = first x size is h in (
      heard.0,
      own_found c.args.offset x c.args.block.now c.args.position c.new-heard.result.items
          c.hear_own.new.found.items size c.new-heard.ensures.items heard.1,
    )

pub returns-clause-heard : goal.returns-clause-heard
returns-clause-heard c = λ x size is h.
    let n = c.min.ensures in
    let long = c.if-block-le7.false in
    let seven : c.min.result ≡ 7 = omega arith in
    let first : LaneHears c.args.offset c.args.position c.args.recent.now (take 7 c.args.block.now)
    c.args.lane.now c.hear_own.new.lane c.new-heard.result.items c.hear_own.new.found.items
    = subst (λ t. LaneHears c.args.offset c.args.position c.args.recent.now t c.args.lane.now c.hear_own.new.lane
    c.new-heard.result.items c.hear_own.new.found.items)
    (c.split_at.ensures.front ∙ ap (λ m. take m c.args.block.now) seven)
    (own_first c.args.offset c.args.position c.args.recent.now _ _ c.args.lane.now c.hear_own.new.lane
    c.new-heard.result.items c.hear_own.new.found.items
    c.told-recent c.bridge-bridge.ensures c.in_ok-hear_own.ensures.found) in
    let heard = own_block c.args.offset c.args.position c.args.recent.now c.args.block.now c.args.lane.now
    c.hear_own.new.lane c.hear_own-2.new.lane
    c.new-heard.result.items c.hear_own.new.found.items c.hear_own-2.new.found.items (omega arith)
    first c.in_ok-hear_own-2.ensures.found x size is h in (
      heard.0,
      own_found c.args.offset x c.args.block.now c.args.position c.new-heard.result.items
          c.hear_own-2.new.found.items size c.new-heard.ensures.items heard.1,
    )

pub returns-clause-bounds : goal.returns-clause-bounds
returns-clause-bounds c =
    let P : Candidate → Type 0 = CanBePutPast c.args.position in
    c.in_ok-hear_own-2.ensures.bounds c.args.position (omega arith)
    (c.in_ok-hear_own.ensures.bounds c.args.position (omega arith)
    (subst (All P) (sym c.new-heard.ensures.items) (All-nil P)))
