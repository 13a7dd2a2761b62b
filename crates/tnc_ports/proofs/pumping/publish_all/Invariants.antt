use Rattle.tnc_ports.proofs.Common.{◌≡◌, ◌++◌, take, map, Step, Publishes}
use Rattle.std.proofs.Common.{List, Some}
use Rattle.tnc_ports.proofs.pumping.publish_all.Given as goal

abbrev pub invariant-loop-sample : goal.invariant-loop-sample
invariant-loop-sample g l = record {
  input : g.T.Inlet.input l.inlet ≡ g.T.Inlet.input l.initial.inlet;
  output : g.T.Inlet.output l.inlet ≡ g.T.Inlet.output l.initial.inlet;
  ring : g.T.Inlet.ring l.inlet ≡ g.T.Inlet.ring l.initial.inlet;
  published : g.T.Inlet.published l.inlet ≡ g.T.Inlet.published l.initial.inlet ++ take l.sample-index l.samples;
  steps : (before : List Step) → g.T.Inlet.steps l.initial.inlet ≡ Some before
      → g.T.Inlet.steps l.inlet ≡ Some (before ++ map Publishes (take l.sample-index l.samples));
  source : g.T.Inlet.told l.inlet ≡ g.T.Inlet.told l.initial.inlet;
}
