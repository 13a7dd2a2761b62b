use Rattle.station.proofs.Common.{◌≡◌, ◌++◌, drop, take, length}
use Rattle.station.specs.Askers.{without_askers}
use Rattle.station.proofs.asker.remove_askers.Given as goal

-- those so far are without the connection
abbrev pub invariant-loop-place : goal.invariant-loop-place
invariant-loop-place l = record {
  length : length l.askers.items ≡ length l.initial.askers.items;
  items : l.askers.items
      ≡ without_askers l.id (take l.place l.initial.askers.items) ++ drop l.place l.initial.askers.items;
}
