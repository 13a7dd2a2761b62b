-- The frames so far.
use Rattle.tnc_decode.proofs.Common.{◌≡◌, ◌++◌, drop, candidate_frames, print}
use Rattle.tnc_decode.proofs.printing.print.Given as goal

abbrev pub invariant-loop-item : goal.invariant-loop-item
invariant-loop-item l = l.text.items ++ print l.form (candidate_frames (drop l.item-index l.items))
    ≡ print l.form (candidate_frames l.items)
