use Rattle.wide_input.proofs.Common.{◌≡◌, ◌++◌, List, map, take, Candidate, brought, found_by}
use Rattle.frame_merge.specs.Held.{StandsFor}
use Rattle.wide_input.proofs.Visits.{Visited, GaveFound}
use Rattle.wide_input.proofs.streams.put_found.Given as goal

abbrev pub invariant-loop-number : goal.invariant-loop-number
invariant-loop-number l = record {
  visited : Visited GaveFound l.initial.streams l.streams l.number;
  stands_for : (puts given : List Candidate) → StandsFor l.initial.merger puts given
      → StandsFor l.merger (puts ++ brought 0 (map found_by (take l.number l.initial.streams))) given;
  marks : l.merger.marks ≡ l.initial.merger.marks;
}
