use Rattle.resampler.proofs.Common.{rules, ◌≡◌, ◌≤◌, ◌+◌, ◌-◌, ◌∙◌, ℤ, List, ◌++◌, length, take, drop, ap, sym, arith}
use Rattle.resampler.proofs.Common.{append_assoc, length-append, length-drop, decimated_settled, HasDecimated}
use Rattle.std.specs.Slice.Iter.{chunks_rest}
use Rattle.std.proofs.lemmas.List.{length-take-le}
use Rattle.std.proofs.lemmas.Slice.{overwrites}
use Rattle.resampler.proofs.FeedLemmas.{fed_part, put_after}
use Rattle.resampler.proofs.feeding.feed_decimator.Goals as goal

pub loop-part-preserved : goal.loop-part-preserved
loop-part-preserved c =
    let part : List ℤ = c.in-Some.part.now in
    let rest : List ℤ = chunks_rest c.next.new.self in
    let out : List ℤ = c.loop-part.out in
    let count = c.loop-part.count in
    let new : List ℤ = c.feed_part-count.new.out in
    let more = c.feed_part-count.result in
    let before = c.loop-part.invariant in
    let room = before.3 in
    let done : List ℤ = before.4 in
    let few = before.6 in
    let steps = c.in-Some.ensures.steps in
    let whole : done ++ (part ++ rest) ≡ c.args.block.now = ap (λ t. done ++ t) (sym steps.1.0) ∙ before.5 in
    let size : length (done ++ (part ++ rest)) ≡ length c.args.block.now = ap length whole in
    let enough = c.requires in
    let inside : count ≤ length out = omega (arith, length-append done (part ++ rest)) in
    let settled = c.feed_part-count.ensures.count in
    let left : length new ≡ length out - count = c.feed_part-count.ensures.room
    ∙ length-take-le (length out - count) (drop count out) (omega (arith, length-drop count out)) in
    let fits : more ≤ length new = omega (arith, length-append done (part ++ rest), length-append part rest) in (
      search rules,
      tt,
      steps.0 ∙ before.2,
      search (rules, overwrites),
      done ++ part,
      append_assoc done part rest ∙ whole,
      omega (arith, length-append done part),
      λ x h. fed_part HasDecimated decimated_settled c.loop-part.filter c.feed_part-count.new.self x done part
          (take count out) (take (count + more) _) (take more new)
          (put_after out new count more (length out - count) inside fits) c.feed_part-count.ensures.fed (before.7 x h),
    )
