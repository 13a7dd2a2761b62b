-- The frames so far have been sent, each on its own.
use Rattle.tnc_encode.proofs.Common.{◌≡◌, ◌++◌, ℕ, List, Some, take}
use Rattle.tnc_encode.proofs.SendingLemmas.{own_octets}
use Rattle.tnc_encode.proofs.encoding.send_all.Given as goal

abbrev pub invariant-loop-frame : goal.invariant-loop-frame
invariant-loop-frame g l = record {
  sent : (before : List ℕ) → (g.O.Sink.told l.initial.output).written ≡ Some before
      → (g.O.Sink.told l.output).written ≡ Some (before ++ own_octets l.fn.words (take l.frame-index l.frames));
  faultless : (g.O.Sink.told l.output).faults ≡ (g.O.Sink.told l.initial.output).faults;
}
