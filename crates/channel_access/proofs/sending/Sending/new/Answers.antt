use Rattle.channel_access.proofs.Common.{rules, new_sending}
use Rattle.channel_access.proofs.sending.Sending.new.Goals as goal

pub returns : goal.returns
unfolding new_sending
returns c = search rules
