-- The octets of the piece so far.
use Rattle.std.proofs.Common.{◌≡◌, ◌≤◌, ◌+◌, List, ℕ, None, length}
use Rattle.tnc_forms.specs.Reading.{input_limit}
use Rattle.tnc_engine.proofs.PieceLemmas.{TookFront}
use Rattle.tnc_engine.proofs.making.make_piece.Given as goal

abbrev pub invariant-taking : goal.invariant-taking
invariant-taking g l = record {
  took : (words : g.row.M-Words.Denot) → (before : List ℕ) → g.M.Maker.holds l.initial.maker words before
      → (g.M.Maker.making words).fault_so_far before ≡ None
      → TookFront (g.M.Maker.making words) (g.M.Maker.holds l.maker words) before l.initial.octets l.rest
      (g.O.Sink.told l.initial.output).written (g.O.Sink.told l.output).written;
  held : (words : g.row.M-Words.Denot) × (before : List ℕ) × g.M.Maker.holds l.maker words before
      × (length before + length l.rest ≤ input_limit);
  faultless : (g.O.Sink.told l.output).faults ≡ (g.O.Sink.told l.initial.output).faults;
}

abbrev pub decreases-taking : goal.decreases-taking
decreases-taking g l = length l.rest
