use Rattle.wide_input.proofs.Common.{ap}
use Rattle.block_receiver.specs.declared.progress.Progress.{Progress}
use Rattle.wide_input.proofs.WideSteps.{taken_none}
use Rattle.wide_input.proofs.wide_bank.WideBank.new.Goals as goal

pub returns-clause-stands_for : goal.returns-clause-stands_for
returns-clause-stands_for c = record {
  spent = ap (λ (p : Progress). p.spent) c.new-2.ensures;
  finished = ap (λ (p : Progress). p.finished) c.new-2.ensures;
  count = ap (λ (p : Progress). p.position) c.new-2.ensures;
  taken = taken_none c.in_ok-new_streams.field-0.items c.in_ok-new.field-0 c.in_ok-new_streams.ensures.stand_for
      c.in_ok-new.ensures.stands_for;
}
