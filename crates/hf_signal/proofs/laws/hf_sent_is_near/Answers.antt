use Rattle.hf_signal.proofs.NearLemmas.{sent_near, signal_near}
use Rattle.hf_signal.proofs.laws.hf_sent_is_near.Goals as goal

pub returns-clause-transmission : goal.returns-clause-transmission
returns-clause-transmission c = sent_near

pub returns-clause-signal : goal.returns-clause-signal
returns-clause-signal c = signal_near
