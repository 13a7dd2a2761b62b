use Rattle.ax25_address.proofs.Common.{ℕ, ◌<◌, get_or}
use Rattle.std.proofs.Common.{◌≢◌}
use Rattle.ax25_address.proofs.call.first_dash.Given as goal

abbrev pub invariant-loop-place : goal.invariant-loop-place
invariant-loop-place l = (k : ℕ) → k < l.place → get_or l.characters k 0 ≢ 45
