use Rattle.tnc_ports.proofs.Common.{◌≡◌, ◌≤◌, ◌+◌, ◌-◌, ◌*◌, ℕ, length, Step, count_of, most_input}
use Rattle.std.proofs.Common.{List, Some, ℤ, []}
use Rattle.sound_rate.specs.declared.rate.Rate.{Rate}
use Rattle.sound_rate.specs.HeldRates.{HasReceived}
use Rattle.tnc_ports.specs.HeldPump.{HasPumped, IsFed, PacesOn}
use Rattle.tnc_ports.proofs.pumping.pump_reads.Given as goal

abbrev pub invariant-reading : goal.invariant-reading
invariant-reading g l = record {
  input : g.T.Inlet.input l.inlet ≡ g.T.Inlet.input l.initial.inlet;
  output : g.T.Inlet.output l.inlet ≡ g.T.Inlet.output l.initial.inlet;
  ring : g.T.Inlet.ring l.inlet ≡ g.T.Inlet.ring l.initial.inlet;
  so_far : (rate : Rate) (whole : List ℕ) → HasReceived rate l.initial.incoming []
      → (g.T.Inlet.told l.initial.inlet).left ≡ Some whole
      → HasPumped rate whole (g.T.Inlet.told l.inlet).left (g.T.Inlet.published l.inlet) l.incoming l.low l.total;
  pace : (rate : Rate) (before : List Step) → HasReceived rate l.initial.incoming []
      → g.T.Inlet.steps l.initial.inlet ≡ Some before
      → PacesOn rate before (g.T.Inlet.steps l.inlet) (g.T.Inlet.published l.inlet) l.incoming l.low;
  taken : (rate : Rate) → HasReceived rate l.initial.incoming []
      → (x : List ℤ) × IsFed rate l.incoming (g.T.Inlet.published l.inlet) x
      × (2 * length x + count_of l.low ≡ l.total);
  bound : l.total ≤ most_input + 1;
  room : length (g.T.Inlet.published l.inlet) ≤ l.total;
  later : (g.T.Inlet.told l.initial.inlet).faults ≤ (g.T.Inlet.told l.inlet).faults;
  faultless : (g.T.Inlet.told l.inlet).faults ≡ (g.T.Inlet.told l.initial.inlet).faults;
}

abbrev pub decreases-reading : goal.decreases-reading
decreases-reading g l = most_input + 1 - l.total
