use Rattle.tone_tracking.proofs.Common.{◌≡◌, ◌+◌, ◌-◌, ◌<◌, ◌∙◌, ℤ, List, [], length, ap, sym, subst, arith, rules}
use Rattle.std.proofs.Common.{◌++◌, append_assoc, append-nil, length-append}
use Rattle.std.specs.Slice.Iter.{chunks_rest}
use Rattle.tone_tracking.specs.HeldLine.{Settles}
use Rattle.tone_tracking.specs.HeldMean.{HeldMean}
use Rattle.tone_tracking.proofs.PieceLemmas.{HasTakenPart, none_taken, one_more}
use Rattle.tone_tracking.proofs.block_mean.BlockMean.feed.Goals as goal

pub loop-piece-init : goal.loop-piece-init
loop-piece-init c = (
  search rules,
  search rules,
  search rules,
  [],
  search rules,
  subst (λ items. HasTakenPart c.args.self.now c.args.self.now items items []) (sym c.in_ok-reserve.ensures.items)
      (none_taken c.args.self.now c.args.levels.now.items c.requires.small),
)

-- what was taken so far, and a piece more
pub loop-piece-preserved : goal.loop-piece-preserved
loop-piece-preserved c =
    let piece : List ℤ = c.in-Some.piece.now in
    let rest : List ℤ = chunks_rest c.next.new.self in
    let before = c.loop-piece.invariant in
    let done : List ℤ = before.3 in
    let steps = c.in-Some.ensures.steps in
    let whole : done ++ (piece ++ rest) ≡ c.args.block.now = ap (λ t. done ++ t) (sym steps.1.0) ∙ before.4 in (
      search rules,
      tt,
      steps.0 ∙ before.2,
      done ++ piece,
      append_assoc done piece rest ∙ whole,
      one_more c.args.self.now c.loop-piece.self c.take.new.self c.reserve.new.self.items c.loop-piece.levels.items
          c.take.new.levels.items done piece before.5
          (record {
            settled = c.in_ok-take.ensures.settled;
            left = c.in_ok-take.ensures.left;
            length = c.in_ok-take.ensures.length;
            small = c.in_ok-take.ensures.small;
          }),
    )

pub take-requires-clause-small : goal.take-requires-clause-small
take-requires-clause-small c = c.loop-piece.invariant.5.small

-- a piece has room, as the block has
pub take-requires-clause-room : goal.take-requires-clause-room
take-requires-clause-room c =
    let piece : List ℤ = c.in-Some.piece.now in
    let rest : List ℤ = chunks_rest c.next.new.self in
    let before = c.loop-piece.invariant in
    let done : List ℤ = before.3 in
    let room = c.requires.room in
    let same = ap length c.in_ok-reserve.ensures.items in
    let so_far = before.5.length in
    let whole : done ++ (piece ++ rest) ≡ c.args.block.now = ap (λ t. done ++ t) (sym c.in-Some.ensures.steps.1.0)
    ∙ before.4 in
    let size : length (done ++ (piece ++ rest)) ≡ length c.args.block.now = ap length whole in
    omega (arith, length-append done (piece ++ rest), length-append piece rest)
