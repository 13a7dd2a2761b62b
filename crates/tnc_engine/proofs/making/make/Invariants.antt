-- The octets read so far.
use Rattle.std.proofs.Common.{◌≡◌, ◌≤◌, ◌-◌, List, ℕ, Some, None, [], length}
use Rattle.tnc_forms.specs.Reading.{input_limit}
use Rattle.tnc_engine.proofs.MakingLemmas.{Progress}
use Rattle.tnc_engine.proofs.making.make.Given as goal

abbrev pub invariant-reading : goal.invariant-reading
invariant-reading g l = record {
  so_far : (words : g.row.M-Words.Denot) → (whole : List ℕ) → g.M.Maker.holds l.initial.maker words []
      → (g.I.Source.told l.initial.input).left ≡ Some whole
      → Progress (g.M.Maker.making words) (g.M.Maker.holds l.maker words) whole (g.I.Source.told l.input).left
      (g.O.Sink.told l.initial.output).written (g.O.Sink.told l.output).written l.total;
  held : (words : g.row.M-Words.Denot) × (read : List ℕ) × g.M.Maker.holds l.maker words read
      × ((g.M.Maker.making words).fault_so_far read ≡ None) × (length read ≡ l.total);
  bound : l.total ≤ input_limit;
  size : length l.buffer ≡ length l.initial.buffer;
  read_faultless : (g.I.Source.told l.input).faults ≡ (g.I.Source.told l.initial.input).faults;
  write_faultless : (g.O.Sink.told l.output).faults ≡ (g.O.Sink.told l.initial.output).faults;
}

abbrev pub decreases-reading : goal.decreases-reading
decreases-reading g l = input_limit - l.total
