use Rattle.fx25_receiver.proofs.Common.{◌≡◌, ◌≤◌, ℕ, ℤ, List, ◌++◌, length, take, drop, get_or, true, last_seven, Heard}
use Rattle.fx25_receiver.specs.Ahead.{AreAhead}
use Rattle.fx25_receiver.specs.Held.{AreAfter}
use Rattle.fx25_receiver.proofs.ahead.run_ahead.Given as goal

abbrev pub invariant-loop-offset : goal.invariant-loop-offset
invariant-loop-offset l = record {
  size : length l.lanes.items ≡ 8;
  waiting_size : length l.waiting ≡ 8;
  waits : (o : ℕ) → l.offset ≤ o → get_or l.waiting o true ≡ true;
  ahead : (kept : List Heard) (x : List ℤ) (given : List Heard) → last_seven x ≡ take 7 l.stretch
      → AreAfter l.initial.lanes.items l.position kept x given
      → AreAhead l.lanes.items l.position kept l.waiting x (x ++ drop 7 l.stretch) given;
}
