-- The bank has taken the samples so far, and what it heard was added.
use Rattle.live_receiver.proofs.PutLemmas.{HasKept}
use Rattle.std.specs.Prelude.{take}
use Rattle.live_receiver.proofs.hf_placing.hear_each.Given as goal

abbrev pub invariant-loop-sample : goal.invariant-loop-sample
invariant-loop-sample l =
    HasKept l.begin l.initial.bank l.bank (take l.sample-index l.samples) l.initial.items.items l.items.items
