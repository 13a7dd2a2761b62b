use Rattle.tnc_call.proofs.Common.{◌≡◌, ◌≤◌, List, ℕ, Some, length, CallPlan, CallTrace, HasBegun, IsRunning}
use Rattle.tnc_call.proofs.calling.converse.Given as goal

-- so many turns were made
abbrev pub invariant-loop-turn : goal.invariant-loop-turn
invariant-loop-turn g l = record {
  running : (plan : CallPlan) (before : List ℕ) → HasBegun plan l.fn.talk
      → (g.O.Sink.told l.fn.output).written ≡ Some before
      → (trace : CallTrace) × (length trace.polls ≡ l._turn)
      × IsRunning l.talk plan l.id before (g.O.Sink.told l.output).written
      (g.N.Ports.told l.fn.ports)
      (g.N.Ports.told l.ports) trace;
  within : l.talk.taken ≤ length l.talk.sent.items;
  faultless : (g.O.Sink.told l.output).faults ≡ (g.O.Sink.told l.fn.output).faults;
}
