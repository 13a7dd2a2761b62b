use Rattle.station.proofs.Common.{get_or}
use Rattle.std.proofs.Common.{ℕ, ◌<◌, ◌≢◌}
use Rattle.station.proofs.call_fields.first_nul.Given as goal

-- no octet so far is NUL
abbrev pub invariant-loop-place : goal.invariant-loop-place
invariant-loop-place l = (k : ℕ) → k < l.place → get_or l.field k 0 ≢ 0
