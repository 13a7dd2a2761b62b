use Rattle.sensitive_receiver.proofs.Common.{[]}
use Rattle.sensitive_receiver.proofs.added_bank.AddedBank.new.Goals as goal

pub returns-clause-stands_for : goal.returns-clause-stands_for
returns-clause-stands_for c = record {
  position = c.in_ok-new.ensures.count;
  line = c.in_ok-new.ensures.has_taken;
  at = c.in_ok-new-2.ensures.at;
  read = c.in_ok-new-2.ensures.read [];
}
