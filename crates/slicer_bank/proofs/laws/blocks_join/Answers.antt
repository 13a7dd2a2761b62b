use Rattle.slicer_bank.proofs.Common.{arith}
use Rattle.slicer_bank.proofs.CandidateLemmas.{candidates_join}
use Rattle.slicer_bank.proofs.laws.blocks_join.Goals as goal

pub returns : goal.returns
returns c = λ x block items found h new. candidates_join 0 x block items found (omega arith) h new
