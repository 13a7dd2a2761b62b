use Rattle.tnc_record.proofs.Common.{◌≡◌, take, text_of_losses}
use Rattle.tnc_record.proofs.lines.text_of_losses.Given as goal

abbrev pub invariant-loop-loss : goal.invariant-loop-loss
invariant-loop-loss l = l.text.items ≡ text_of_losses (take l.loss-index l.losses)
