use Rattle.slicer_bank.proofs.Common.{ap, arith, in_order, length}
use Rattle.slicer_bank.proofs.FewKept.{few_kept}
use Rattle.slicer_bank.proofs.laws.a_decoder_keeps_few.Goals as goal

pub returns : goal.returns
returns c = λ held x h.
    let few = few_kept x (in_order h.merged.puts) h.merged.are in
    let count = ap length h.merged.kept in
    omega arith
