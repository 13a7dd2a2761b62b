use Rattle.station.proofs.Common.{◌≡◌, ◌≤◌, None}
use Rattle.std.specs.Prelude.{replicate, vec_capacity}
use Rattle.station.proofs.link_table.LinkTable.new.Given as goal

-- so many places are there, and room for the others
abbrev pub invariant-loop : goal.invariant-loop
invariant-loop l = record { items : l.places.items ≡ replicate l.counter None; room : 64 ≤ vec_capacity l.places }
