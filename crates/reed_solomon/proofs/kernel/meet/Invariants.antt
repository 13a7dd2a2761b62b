-- The rows before m are cleared, the others are as they were.
use Rattle.reed_solomon.proofs.Common.{◌≡◌, ℕ, ◌<◌, ◌≤◌, AddsMultiple, dot, row}
use Rattle.reed_solomon.proofs.kernel.meet.Given as goal

abbrev pub invariant-loop-m : goal.invariant-loop-m
invariant-loop-m l = record {
  adds : (m : ℕ) → m < l.m → AddsMultiple l.pivot (row l.initial.rows m) (row l.rows m);
  meets : (m : ℕ) → m < l.m → dot (row l.rows m) l.equation ≡ 0;
  rest : (m : ℕ) → l.m ≤ m → row l.rows m ≡ row l.initial.rows m;
}
