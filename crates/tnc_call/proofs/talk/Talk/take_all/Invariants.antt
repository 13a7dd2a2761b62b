use Rattle.tnc_call.proofs.Common.{◌≡◌, ◌≤◌, ◌++◌, ℕ, List, length, take, CallPlan, octets_of, GoesOn}
use Rattle.tnc_call.proofs.talk.Talk.take_all.Given as goal

-- the call goes on with the events so far
abbrev pub invariant-loop-event : goal.invariant-loop-event
invariant-loop-event g l = record {
  goes_on : (plan : CallPlan) (host before : List ℕ)
      → GoesOn l.fn.self plan host before (g.O.Sink.told l.fn.output).written
      → GoesOn l.self plan (host ++ octets_of l.id (take l.event-index l.events)) before
      (g.O.Sink.told l.output).written;
  kept : l.self.taken ≡ l.fn.self.taken;
  within : l.self.taken ≤ length l.self.sent.items;
  faultless : (g.O.Sink.told l.output).faults ≡ (g.O.Sink.told l.fn.output).faults;
}
