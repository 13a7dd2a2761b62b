use Rattle.sensitive_receiver.proofs.added_banks.AddedBanks.new.Goals as goal

pub returns-clause-read : goal.returns-clause-read
returns-clause-read c = λ x. record {
  fixed_read = c.in_ok-new.ensures.read x;
  near_read = c.in_ok-new-2.ensures.read x;
  far_read = c.in_ok-new-3.ensures.read x;
  fast_read = c.new-4.ensures.read x;
  alone_read = c.in_ok-new-4.ensures.read x;
}
