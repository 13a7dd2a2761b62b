use Rattle.station.proofs.Common.{ℕ, ◌<◌, None, IfSome, get_or, HasFew}
use Rattle.station.proofs.link_table.LinkTable.hold_few.Given as goal

-- the links so far hold few packets
abbrev pub invariant-loop-place : goal.invariant-loop-place
invariant-loop-place l = (k : ℕ) → k < l.place-index → IfSome (get_or l.place-items k None) (HasFew l.id)
