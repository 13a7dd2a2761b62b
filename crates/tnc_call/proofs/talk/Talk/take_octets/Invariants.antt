use Rattle.tnc_call.proofs.Common.{◌≡◌, ◌≤◌, ◌++◌, ℕ, List, length, take, CallPlan, GoesOn}
use Rattle.tnc_call.proofs.talk.Talk.take_octets.Given as goal

-- the call goes on with the octets so far
abbrev pub invariant-loop-octet : goal.invariant-loop-octet
invariant-loop-octet g l = record {
  goes_on : (plan : CallPlan) (host before : List ℕ)
      → GoesOn l.fn.self plan host before (g.O.Sink.told l.fn.output).written
      → GoesOn l.self plan (host ++ take l.octet-index l.octets) before (g.O.Sink.told l.output).written;
  kept : l.self.taken ≡ l.fn.self.taken;
  within : l.self.taken ≤ length l.self.sent.items;
  faultless : (g.O.Sink.told l.output).faults ≡ (g.O.Sink.told l.fn.output).faults;
}
