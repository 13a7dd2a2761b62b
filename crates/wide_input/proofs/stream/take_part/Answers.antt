use Rattle.wide_input.proofs.Common.{◌≡◌, ◌-◌, ◌++◌, ◌∷◌, [], ℕ, ℤ, List, suc, take, get_or, pos, ap, sym, ◌∙◌}
use Rattle.wide_input.proofs.Common.{append_assoc, arith, stream}
use Rattle.std.proofs.lemmas.Grind.{common_steps}
use Rattle.wide_input.proofs.StreamLemmas.{step_taken, step_skipped}
use Rattle.wide_input.proofs.stream.take_part.Goals.{then-left-gt0, else-left-gt0+in_ok-append}
use Rattle.wide_input.proofs.stream.take_part.Goals as goal

pub loop-sample-preserved : goal.loop-sample-preserved
loop-sample-preserved c =
    let block : List ℤ = c.args.block.now in
    let i : ℕ = c.loop-sample.sample-index in
    let before = c.loop-sample.invariant in
    let was : List ℤ = c.args.part.now.items in
    elim c.if-left-gt0.branch [
      | then-left-gt0 w ↦
          let some = w.if-left-gt0.true in
          let here : c.loop-sample.left ≡ suc (c.loop-sample.left - 1) = omega arith in
          let step = step_skipped c.args.skipped (c.loop-sample.left - 1) i block c.loop-sample-test.true
          (sym before.left ∙ here) in
          record {
            part = ap (λ v. v.items) w.part-is ∙ before.part ∙ ap (λ t. was ++ t) (sym step.0);
            left = w.left-is ∙ sym step.1;
          }
      | else-left-gt0+in_ok-append w ↦
          let none = w.if-left-gt0.false in
          let here : c.loop-sample.left ≡ 0 = omega arith in
          let pushed : w.append.new.part.items ≡ c.loop-sample.part.items ++ get_or block i (pos 0) ∷ [] =
          grind (arith, common_steps) in
          let step = step_taken c.args.skipped i block (pos 0) c.loop-sample-test.true (sym before.left ∙ here) in
          record {
            part = ap (λ v. v.items) w.part-is ∙ pushed ∙ ap (λ t. t ++ get_or block i (pos 0) ∷ []) before.part
                ∙ append_assoc was (stream c.args.skipped (take i block)) (get_or block i (pos 0) ∷ [])
                ∙ ap (λ t. was ++ t) (sym step.0);
            left = w.left-is ∙ sym step.1;
          }
    ]
