use Rattle.tnc_ports.proofs.Common.{◌≡◌, ◌≤◌, ◌+◌, ◌++◌, ℕ, length, take, map, Step, Publishes}
use Rattle.std.proofs.Common.{List, ℤ, Some}
use Rattle.sound_rate.specs.declared.rate.Rate.{Rate}
use Rattle.tnc_ports.specs.HeldPump.{HasTaken, IsFed}
use Rattle.tnc_ports.proofs.pumping.publish.Given as goal

abbrev pub invariant-loop-octet : goal.invariant-loop-octet
invariant-loop-octet g l = record {
  input : g.T.Inlet.input l.inlet ≡ g.T.Inlet.input l.initial.inlet;
  output : g.T.Inlet.output l.inlet ≡ g.T.Inlet.output l.initial.inlet;
  ring : g.T.Inlet.ring l.inlet ≡ g.T.Inlet.ring l.initial.inlet;
  taken : (rate : Rate) (x : List ℤ) → IsFed rate l.initial.incoming (g.T.Inlet.published l.initial.inlet) x
      → HasTaken rate x l.initial.low (take l.octet-index l.octets) l.low l.incoming (g.T.Inlet.published l.inlet);
  few : length (g.T.Inlet.published l.inlet) ≤ length (g.T.Inlet.published l.initial.inlet) + l.octet-index;
  steps : (more : List ℤ) × (g.T.Inlet.published l.inlet ≡ g.T.Inlet.published l.initial.inlet ++ more)
      × ((before : List Step) → g.T.Inlet.steps l.initial.inlet ≡ Some before
      → g.T.Inlet.steps l.inlet ≡ Some (before ++ map Publishes more));
  source : g.T.Inlet.told l.inlet ≡ g.T.Inlet.told l.initial.inlet;
}
