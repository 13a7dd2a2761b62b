use Rattle.frame_merge.proofs.Common.{[], ◌∷◌, ◌++◌, ap, sym, ◌∙◌}
use Rattle.frame_merge.proofs.Taking.{ready_more, ready_same}
use Rattle.frame_merge.proofs.ready.ready_between.Goals.{then-is_ready+in_ok-copy+in_ok-push, else-is_ready}
use Rattle.frame_merge.proofs.ready.ready_between.Goals as goal

pub loop-index-preserved : goal.loop-index-preserved
loop-index-preserved c =
    let item = c.index-items-index.result in
    elim c.if-is_ready.branch [
      | then-is_ready+in_ok-copy+in_ok-push w ↦
          ap (λ v. v.items) w.ready-is ∙ w.in_ok-push.ensures.items
          ∙ ap (λ x. c.loop-index.ready.items ++ x ∷ []) w.in_ok-copy.ensures
          ∙ ap (λ xs. xs ++ item ∷ []) c.loop-index.invariant
          ∙ sym (ready_more c.args.from c.args.to c.args.items.now c.loop-index.index item c.loop-index-test.true
          c.index-items-index.is (sym c.is_ready.ensures ∙ w.if-is_ready.true))
      | else-is_ready w ↦ ap (λ v. v.items) w.ready-is ∙ c.loop-index.invariant
          ∙ sym (ready_same c.args.from c.args.to c.args.items.now c.loop-index.index item c.loop-index-test.true
          c.index-items-index.is (sym c.is_ready.ensures ∙ w.if-is_ready.false))
    ]
