use Rattle.offset_slicers.proofs.Common.{◌≡◌, ℕ, ℤ, ◌+ℤ◌, List, ◌∷◌, pos, get_or, arith}
use Rattle.std.proofs.Common.{[]}
use Rattle.offset_slicers.proofs.LaneLemmas.{four_items, lane, lane_small, sum_fits, sum_is}
use Rattle.offset_slicers.proofs.correlators.in_pairs.Goals as goal

pub overflow_add-result : goal.overflow_add-result
overflow_add-result c =
    let x = lane_small 1050000000 c.args.first c.requires.first in
    let y = lane_small 1050000000 c.args.second c.requires.second in
    let at = λ (zs : List ℤ) (k : ℕ). get_or zs k (pos 0) in
    let a = c.args.first in
    let b = c.args.second in
    rw (four_items a c.requires.first.four, four_items b c.requires.second.four) (
      sum_fits (at a 0) (at a 1) (x 0 (omega arith)) (x 1 (omega arith)),
      (
        sum_fits (at a 2) (at a 3) (x 2 (omega arith)) (x 3 (omega arith)),
        (
          sum_fits (at b 0) (at b 1) (y 0 (omega arith)) (y 1 (omega arith)),
          (sum_fits (at b 2) (at b 3) (y 2 (omega arith)) (y 3 (omega arith)), tt),
        ),
      ),
    )

pub returns : goal.returns
returns c =
    let xs = c.args.first in
    let ys = c.args.second in
    let x = lane_small 1050000000 xs c.requires.first in
    let y = lane_small 1050000000 ys c.requires.second in
    let one : lane (lane (get_or xs 0 (pos 0)) +ℤ lane (get_or xs 1 (pos 0)))
    ≡ get_or xs 0 (pos 0) +ℤ get_or xs 1 (pos 0)
    = sum_is (get_or xs 0 (pos 0)) (get_or xs 1 (pos 0)) (x 0 (omega arith)) (x 1 (omega arith)) in
    let two : lane (lane (get_or xs 2 (pos 0)) +ℤ lane (get_or xs 3 (pos 0)))
    ≡ get_or xs 2 (pos 0) +ℤ get_or xs 3 (pos 0)
    = sum_is (get_or xs 2 (pos 0)) (get_or xs 3 (pos 0)) (x 2 (omega arith)) (x 3 (omega arith)) in
    let three : lane (lane (get_or ys 0 (pos 0)) +ℤ lane (get_or ys 1 (pos 0)))
    ≡ get_or ys 0 (pos 0) +ℤ get_or ys 1 (pos 0)
    = sum_is (get_or ys 0 (pos 0)) (get_or ys 1 (pos 0)) (y 0 (omega arith)) (y 1 (omega arith)) in
    let four : lane (lane (get_or ys 2 (pos 0)) +ℤ lane (get_or ys 3 (pos 0)))
    ≡ get_or ys 2 (pos 0) +ℤ get_or ys 3 (pos 0)
    = sum_is (get_or ys 2 (pos 0)) (get_or ys 3 (pos 0)) (y 2 (omega arith)) (y 3 (omega arith)) in
    rw (four_items xs c.requires.first.four, four_items ys c.requires.second.four)
    (λ i. one i ∷ two i ∷ three i ∷ four i ∷ [])
