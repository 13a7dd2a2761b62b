use Rattle.sensitive_receiver.proofs.Common.{◌≡◌, ℕ, ◌+◌, ◌-◌, ◌%◌, ◌<◌, ◌≤◌, length, All, HasRoomFrom}
use Rattle.sensitive_receiver.specs.FixedLanes.{LaneReads}
use Rattle.sensitive_receiver.proofs.fixed_hearing.hear_line.Given as goal

-- the lane has read its places before the next one
abbrev pub invariant-loop-at : goal.invariant-loop-at
invariant-loop-at l = record {
  near : l.at < length l.line + 8;
  turn : (l.place + l.at) % 8 ≡ l.number - 8;
  reads : LaneReads l.number l.place l.line l.place (l.place + l.at) l.initial.lane l.lane l.initial.found.items
      l.found.items;
  bounds : (low : ℕ) → low ≤ l.place + 6 → All (HasRoomFrom low) l.initial.found.items
      → All (HasRoomFrom low) l.found.items;
}

abbrev pub decreases-loop-at : goal.decreases-loop-at
decreases-loop-at l = length l.line - l.at
