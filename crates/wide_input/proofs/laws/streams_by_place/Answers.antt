use Rattle.wide_input.proofs.Common.{pos, arith}
use Rattle.wide_input.proofs.StreamLemmas.{stream-place, length-stream, least_count-is}
use Rattle.wide_input.proofs.laws.streams_by_place.Goals as goal

pub returns-clause-sample : goal.returns-clause-sample
returns-clause-sample c = λ r k x l. stream-place r x k (pos 0) l

pub returns-clause-count : goal.returns-clause-count
returns-clause-count c = λ r x small. length-stream r x (omega arith)

pub returns-clause-least : goal.returns-clause-least
returns-clause-least c = least_count-is
