use Rattle.std.proofs.Common.{◌≡◌, ◌+◌, ◌-◌, ◌∙◌, length, arith}
use Rattle.ring_recorder.proofs.LossLemmas.{goes_on_last, stands_alone, stands_first}
use Rattle.ring_recorder.proofs.loss.note_gap.Goals.{else-count-gt0-via-then-count-gt0+else-index-from}
use Rattle.ring_recorder.proofs.loss.note_gap.Goals.{else-count-gt0-via-else-count-gt0}
use Rattle.ring_recorder.proofs.loss.note_gap.Goals as goal

pub returns-then-index-from : goal.returns-then-index-from
returns-then-index-from c =
    let some = c.if-count-gt0.true in
    let many = c.len-count.ensures in
    let counted = c.args.losses.now.ok.0 in
    let count : c.len-count.result - 1 + 1 ≡ length c.args.losses.now.items = omega arith in
    goes_on_last c.args.losses.now.items c.args.from c.args.to (c.len-count.result - 1) c.index.result.now
    c.index_mut.result.now count c.index.ensures c.index_mut.ensures.value c.if-index-from.true

pub returns : goal.returns
returns c =
    let many = c.len-count.ensures in
    let counted = c.args.losses.now.ok.0 in
    c.push_reserved.ensures.items ∙ elim c.else-count-gt0.branch [
      | else-count-gt0-via-then-count-gt0+else-index-from w ↦
          let some = w.if-count-gt0.true in
          let count : c.len-count.result - 1 + 1 ≡ length c.args.losses.now.items = omega arith in
          stands_alone c.args.losses.now.items c.args.from c.args.to (c.len-count.result - 1) w.index.result.now count
          w.index.ensures w.if-index-from.false
      | else-count-gt0-via-else-count-gt0 w ↦
          let none = w.if-count-gt0.false in
          stands_first c.args.losses.now.items c.args.from c.args.to (omega arith)
    ]
