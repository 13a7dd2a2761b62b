-- The lines so far, and those of the set-ups that are left.
use Rattle.std.proofs.Common.{◌≡◌, ◌+◌, ◌++◌, drop, string_bytes}
use Rattle.tnc_bench.specs.Reported.{set_up_lines}
use Rattle.tnc_bench.proofs.reporting.set_up_lines.Given as goal

abbrev pub invariant-loop-place : goal.invariant-loop-place
invariant-loop-place l =
    string_bytes l.lines ++ set_up_lines l.side (l.place + 1) (drop l.place l.set_ups) ≡ set_up_lines l.side 1 l.set_ups
