use Rattle.fx25_receiver.proofs.Common.{◌≡◌, ◌<◌, ℕ, get_or, true, false}
use Rattle.fx25_receiver.proofs.ahead.is_some_waiting.Given as goal

abbrev pub invariant-loop-waits : goal.invariant-loop-waits
invariant-loop-waits l = (k : ℕ) → k < l.waits-index → get_or l.waiting k true ≡ false
