use Rattle.resampler.proofs.Common.{rules, ◌+◌, ◌*◌, ◌∙◌, ℤ, List, [], ◌∷◌, ◌++◌, take, drop, ap, sym, arith}
use Rattle.resampler.proofs.Common.{FitsSigned, w16, to_z, of_z, to_z-of_z, map-range_with_len_more}
use Rattle.std.proofs.lemmas.List.{take_more_set}
use Rattle.resampler.specs.Line.{sample_of_window, each_fifth}
use Rattle.resampler.proofs.line.filter_each_fifth.Goals as goal

pub loop-i-preserved : goal.loop-i-preserved
loop-i-preserved c =
    let i = c.loop-i.i in
    let line : List ℤ = c.args.line.now in
    let fits : FitsSigned w16 c.sample_of_window.result = search rules in
    let before = c.loop-i.invariant in
    let test = c.loop-i-test.true in
    let room = before.room in
    record {
      so_far = take_more_set c.loop-i.out i (to_z w16 (of_z w16 c.sample_of_window.result)) (omega arith)
          ∙ ap (λ l. l ++ to_z w16 (of_z w16 c.sample_of_window.result) ∷ []) before.so_far
          ∙ ap (λ z. each_fifth line c.args.first i ++ z ∷ []) (to_z-of_z w16 c.sample_of_window.result fits
          ∙ c.sample_of_window.ensures ∙ ap sample_of_window c.window_at.ensures)
          ∙ sym (map-range_with_len_more (λ k. sample_of_window (take 31 (drop (c.args.first + 5 * k) line))) 0 i i
          (omega arith));
      room = search rules;
    }
