use Rattle.sensitive_receiver.proofs.Common.{◌≤◌, ap, arith, in_order, length}
use Rattle.sensitive_receiver.proofs.FewKept.{few_kept}
use Rattle.sensitive_receiver.proofs.laws.a_sensitive_decoder_keeps_few.Goals as goal

pub returns : goal.returns
returns c = λ held x h.
    let few = few_kept x (in_order h.merged.puts) h.merged.are in
    let count = ap length h.merged.kept in
    omega arith
