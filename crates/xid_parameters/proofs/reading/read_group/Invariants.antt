-- The octets so far spell parameters, and what is told is what they tell.
use Rattle.std.proofs.Common.{◌≡◌, ◌-◌, ◌≤◌, List, ◌++◌, length, drop}
use Rattle.xid_parameters.specs.XidField.{Parameter, group_octets}
use Rattle.xid_parameters.specs.Told.{told_by}
use Rattle.xid_parameters.proofs.reading.read_group.Given as goal

abbrev pub invariant-loop-at : goal.invariant-loop-at
invariant-loop-at l =
    (done : List Parameter) × (l.group ≡ group_octets done ++ drop l.at l.group)
    × (l.told ≡ told_by done) × (l.at ≤ length l.group)

abbrev pub decreases-loop-at : goal.decreases-loop-at
decreases-loop-at l = length l.group - l.at
