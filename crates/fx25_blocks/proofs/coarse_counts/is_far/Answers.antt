use Rattle.fx25_blocks.proofs.Common.{◌≡◌, ◌+◌, ◌*◌, ◌/◌, ◌^◌, ◌<◌, ap, sym, ◌∙◌, arith, subst, eqb-true}
use Rattle.std.proofs.Common.{map}
use Rattle.fx25_blocks.proofs.CoarseLemmas.{all_far, totals-lt, totals_more, totals_none}
use Rattle.fx25_blocks.specs.CoarseCounts.{coarse_total, packed, tag_numbers}
use Rattle.std.proofs.lemmas.Nat.{shr-shr}
use Rattle.fx25_blocks.proofs.coarse_counts.is_far.Goals as goal

pub loop-piece-init : goal.loop-piece-init
loop-piece-init c = record { rest = omega arith; counts = totals_none c.args.register }

-- the counts with those of one piece more
counts_more : (c : goal.After-row-counts) → c.loop-piece.counts + c.row-counts.result
    ≡ packed (map (coarse_total c.args.register (c.loop-piece.piece + 1)) tag_numbers)
counts_more c =
    let h = c.loop-piece.invariant in
    totals_more c.args.register c.loop-piece.piece c.loop-piece.rest c.loop-piece.counts c.row-counts.result h.rest
    h.counts c.row-counts.ensures

pub overflow_add-counts : goal.overflow_add-counts
overflow_add-counts c =
    let few = c.loop-piece-test.true in
    let most = totals-lt c.args.register (c.loop-piece.piece + 1) (c.loop-piece.counts + c.row-counts.result)
    (omega arith) (counts_more c) in
    omega arith

pub loop-piece-preserved : goal.loop-piece-preserved
loop-piece-preserved c =
    let h = c.loop-piece.invariant in
    let register = c.args.register in
    let piece = c.loop-piece.piece in
    let places : 8 * (piece + 1) ≡ 8 * piece + 8 = omega arith in
    record {
      rest = ap (λ n. n / 256) h.rest ∙ shr-shr register (8 * piece) 8 ∙ ap (λ n. register / 2 ^ n) (sym places);
      counts = counts_more c;
    }

pub returns : goal.returns
returns c = λ far.
    let past = c.loop-piece-test.false in
    let most = c.loop-piece.auto.piece-end in
    let all : c.loop-piece.piece ≡ 6 = omega arith in
    all_far c.args.register c.loop-piece.counts
    (c.loop-piece.invariant.counts
    ∙ ap (λ n. packed (map (coarse_total c.args.register n) tag_numbers)) all) (eqb-true _ _ far)
