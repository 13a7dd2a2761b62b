use Rattle.station.proofs.Common.{◌≡◌, ◌≤◌, take, AreParts, StationState}
use Rattle.station.specs.Owners.{left_waiting}
use Rattle.station.proofs.parts.Parts.left_waiting.Given as goal

-- those so far are counted
abbrev pub invariant-loop-owner : goal.invariant-loop-owner
invariant-loop-owner l = record {
  counted : (s : StationState) → AreParts l.self s
      → l.count ≡ left_waiting s.connections (take l.owner-index l.self.owners.items);
  most : l.count ≤ l.owner-index;
}
