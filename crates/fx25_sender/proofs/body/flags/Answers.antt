use Rattle.fx25_sender.proofs.Common.{[], ap, ◌∙◌, append-nil, body, flags}
use Rattle.fx25_sender.proofs.body.flags.Goals as goal

pub returns : goal.returns
unfolding body
returns c = c.in_ok-bits.ensures ∙ append-nil (flags c.args.count)
