use Rattle.sensitive_receiver.proofs.Common.{◌≡◌, ℕ, ◌+◌, ◌≤◌, length, All, HasRoomFrom}
use Rattle.sensitive_receiver.specs.FixedLanes.{LanesRead}
use Rattle.sensitive_receiver.proofs.fixed_hearing.hear_lanes.Given as goal

-- the first lanes have read the line
abbrev pub invariant-loop-index : goal.invariant-loop-index
invariant-loop-index l = record {
  lanes : length l.lanes ≡ 8;
  reads : LanesRead l.index l.place l.line l.initial.lanes l.lanes l.initial.found.items l.found.items;
  bounds : (low : ℕ) → low ≤ l.place + 6 → All (HasRoomFrom low) l.initial.found.items
      → All (HasRoomFrom low) l.found.items;
}
